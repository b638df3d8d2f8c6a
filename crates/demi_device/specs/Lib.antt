pub mod Serving
pub mod Turning
pub mod Holding
pub mod Doubling
