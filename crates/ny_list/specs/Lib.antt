pub mod Store
pub mod Laws
pub mod Steps
pub mod Reading
pub mod Chain
pub mod Table
