pub mod Operations
pub mod Sides
