pub mod Canonical
pub mod Grammar
pub mod Levels
pub mod Places
pub mod SameTree
pub mod Spelled
pub mod Sizes
