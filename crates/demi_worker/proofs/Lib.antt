pub mod Leaving
pub mod Links
pub mod Listed
pub mod Served
pub mod Standing
pub mod Turns
pub mod Ways
