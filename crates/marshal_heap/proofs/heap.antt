pub mod HeapFieldLemmas
pub mod HeapLemmas
pub mod HeapWriteLemmas
pub mod HeapPositionLemmas
pub mod HeapReadLemmas
mod WordLemmas
pub mod HeapStringLemmas
mod CodeLemmas
mod StoredLemmas
mod NewLemmas
mod ChangeLemmas
