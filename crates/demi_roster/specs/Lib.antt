pub mod Hands
pub mod Hiring
pub mod Places
pub mod Staging
