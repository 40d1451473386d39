pub mod Sums
pub mod Added
pub mod Parts
