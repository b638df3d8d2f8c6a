pub mod Request
pub mod Input
pub mod Reply
pub mod LogText
pub mod Record
pub mod Store
