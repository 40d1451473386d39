pub mod Channel
pub mod Ends
pub mod Outcome
pub mod Reading
pub mod Rounds
pub mod Playing
pub mod Frames
