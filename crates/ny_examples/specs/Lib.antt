pub mod Sounds
pub mod Maps
pub mod Programs
pub mod Sequences
