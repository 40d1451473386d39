pub mod Faults
pub mod Host
pub mod Memory
pub mod MemoryFiles
pub mod MemoryState
pub mod NeverFails
