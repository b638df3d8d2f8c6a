pub mod Numbers
pub mod Texts
pub mod Given
pub mod Arguments
pub mod Taken
pub mod Founds
pub mod Examples
