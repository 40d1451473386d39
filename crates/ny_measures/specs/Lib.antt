pub mod Counts
pub mod Weight
pub mod Depth
