pub mod Declarations
pub mod Heights
pub mod Joined
pub mod Stack
pub mod RefusalLaws
