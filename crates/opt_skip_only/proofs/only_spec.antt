pub mod OnlyKnownLemmas
pub mod OnlyCommandLemmas
pub mod EachLemmas
pub mod OnlyFetchLemmas
pub mod OnlyTableLemmas
