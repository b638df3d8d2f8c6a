mod EndsTold
pub mod Entries
pub mod LinkCloses
mod Lists
mod ManyCloses
pub mod NeverBegan
pub mod NeverRead
pub mod NoneStruck
mod OnlyCloses
mod PopsRead
mod ReadsDue
mod ReadsMade
mod ReadsOf
mod TextEnds
