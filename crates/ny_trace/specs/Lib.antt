pub mod Evaluates
pub mod Laws
pub mod Heights
pub mod Settled
pub mod Reveals
pub mod Plays
pub mod Channels
