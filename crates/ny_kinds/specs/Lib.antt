pub mod Rows
pub mod Kinds
pub mod Table
pub mod Whole
pub mod Refusals
