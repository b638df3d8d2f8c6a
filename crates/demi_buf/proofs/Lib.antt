pub mod Memory
pub mod Sharing
pub mod Crosses
pub mod Walks
pub mod Runs
pub mod Rest
