pub mod Walk
pub mod Stops
pub mod Fills
pub mod Parts
pub mod Below
pub mod Heard
pub mod Fits
