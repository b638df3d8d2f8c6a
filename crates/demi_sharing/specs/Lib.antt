pub mod Acting
pub mod Closing
pub mod Dealing
pub mod Setting
pub mod Taking
