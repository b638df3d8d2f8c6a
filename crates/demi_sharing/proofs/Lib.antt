mod Acts
mod Closes
mod Dealt
mod Deeds
mod Doing
mod Learnt
mod Links
mod Lists
pub mod New
mod Numbers
mod Ran
mod Setting
mod Worked
