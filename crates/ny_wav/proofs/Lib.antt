pub mod Examples
pub mod Frames
