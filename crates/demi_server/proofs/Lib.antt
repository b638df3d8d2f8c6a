pub mod Backs
mod Callers
mod Causes
mod CrewOfOne
mod FaultsTold
pub mod Gathered
pub mod Growth
mod HandSend
mod HandStages
pub mod Homes
mod LogFaults
mod NewBack
mod OneEnds
mod OnlyServed
pub mod Opens
mod OutcomeRows
pub mod Outcomes
pub mod Rewriting
mod Sessions
mod Singles
pub mod Stopped
mod TakenApart
