pub mod Serving
pub mod Taking
