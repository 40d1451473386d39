pub mod Matched
pub mod Born
pub mod Roots
pub mod Counting
pub mod Walking
pub mod Keeps
pub mod Channels
