pub mod Quotients
pub mod Segments
pub mod Reaches
pub mod PlacedThreshold
pub mod StepLists
pub mod LeastInverse
pub mod NeverFalls
