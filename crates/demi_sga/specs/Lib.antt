pub mod Rows
pub mod Arrays
