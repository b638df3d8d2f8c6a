pub mod Decoding
pub mod Reading
pub mod Head
pub mod Inside
pub mod Heads
pub mod ReadBack
pub mod Writing
