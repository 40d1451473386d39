pub mod Blocks
pub mod Layout
pub mod Slots
pub mod Vacant
