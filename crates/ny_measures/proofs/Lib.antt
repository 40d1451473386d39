pub mod Capped
pub mod Depths
