pub mod Commands
pub mod Reader
pub mod Views
pub mod Words
