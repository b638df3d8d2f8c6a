pub mod ContextLaws
pub mod ContextLedgers
pub mod ContextPorts
pub mod ContextSights
pub mod Halting
