pub mod PlaceLemmas
pub mod PoolLemmas
pub mod RangeLemmas
pub mod SlotLemmas
