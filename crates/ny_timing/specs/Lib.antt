pub mod Timings
pub mod Envelopes
pub mod Found
pub mod Played
pub mod Held
