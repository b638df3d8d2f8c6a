mod ContextAsks
mod ContextGoing
pub mod ContextKinds
pub mod ContextOwing
pub mod ContextSend
pub mod ContextSides
mod ContextSteps
mod ContextStops
pub mod ContextSubmits
pub mod ContextTries
pub mod Halting
pub mod Halts
