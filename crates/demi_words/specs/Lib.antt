pub mod Descriptions
pub mod Numbers
pub mod Commands
pub mod Plain
