pub mod TextParts
pub mod Standing
pub mod Kinds
pub mod Whole
pub mod Reached
pub mod Complete
pub mod UsedNames
pub mod Measures
