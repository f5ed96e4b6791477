pub mod StoreHeldLemmas
pub mod StoreInstanceLemmas
pub mod StoreLemmas
pub mod DistinctLemmas
pub mod StoreTreeLemmas
