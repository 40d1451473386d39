pub mod Arches
pub mod Steps
