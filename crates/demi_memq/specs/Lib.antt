pub mod Said
pub mod Counting
pub mod Chains
pub mod Steady
pub mod Rooms
pub mod Segments
pub mod Serving
pub mod Engine
