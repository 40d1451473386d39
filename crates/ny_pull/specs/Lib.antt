pub mod Engine
pub mod Inside
pub mod Ordered
pub mod Places
pub mod Planned
pub mod Seated
