pub mod Filtering
pub mod Kept
pub mod Sizes
pub mod Stages
pub mod Ways
