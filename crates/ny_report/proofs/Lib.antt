pub mod KindsLeft
