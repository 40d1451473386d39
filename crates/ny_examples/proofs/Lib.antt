pub mod InTurn
pub mod Thresholds
