pub mod Calls
pub mod Joined
pub mod Drawing
pub mod Bytes
