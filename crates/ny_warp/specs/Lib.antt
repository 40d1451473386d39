pub mod Maps
pub mod Warp
pub mod Environment
