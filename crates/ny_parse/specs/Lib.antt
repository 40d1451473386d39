pub mod Nodes
pub mod Prefix
pub mod Reading
