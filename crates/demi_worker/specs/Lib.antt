pub mod Blank
pub mod Ending
pub mod Standing
pub mod Stopping
pub mod Turns
