pub mod Arguments
pub mod Earliest
pub mod Forms
pub mod Operands
pub mod Rates
pub mod PartSizes
pub mod AgainLaws
pub mod ParamSteps
