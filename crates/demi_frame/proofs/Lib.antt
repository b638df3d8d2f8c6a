pub mod Fronts
pub mod Nexts
pub mod ReadOn
pub mod ReadingBack
pub mod Refusals
pub mod NoReplies
