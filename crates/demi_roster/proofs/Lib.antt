pub mod HandSend
mod HandStages
pub mod HiringSteps
