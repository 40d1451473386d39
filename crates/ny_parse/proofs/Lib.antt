mod DeclarationsKeep
mod Drives
mod Ended
mod Lists
mod OperandsKeep
mod Partial
mod Programs
mod Slices
mod Small
mod StepKeeps
mod Steps
mod Viable
mod Whole
mod WholesKeep
pub mod OnePlace
pub mod OneTree
