pub mod Calls
pub mod Counts
pub mod Frames
pub mod Hands
pub mod Kinds
pub mod Made
pub mod Ranks
