pub mod Closed
pub mod LinkClosed
pub mod ManyLinks
pub mod OnlyLink
pub mod Reading
pub mod TextEnds
