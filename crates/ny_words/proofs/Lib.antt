pub mod MoreArguments
pub mod Numbers
pub mod Rates
pub mod ReaderLemmas
