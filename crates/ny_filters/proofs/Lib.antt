pub mod Combs
pub mod Filterings
pub mod Folds
pub mod Fillings
pub mod Products
pub mod Reciprocals
pub mod Towards
