pub mod Calm
pub mod Runs
pub mod Geared
