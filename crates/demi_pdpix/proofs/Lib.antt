pub mod Columns
pub mod Returned
mod Untouched
mod Dealt
mod SamePorts
mod MadePairs
mod Ended
mod NewWhole
pub mod Outstanding
mod Given
mod Learning
mod Tried
mod StillBusy
mod AllCame
pub mod Holding
mod OneCaller
pub mod Homecoming
mod TwoCallers
pub mod SharedSeats
pub mod Shareable
