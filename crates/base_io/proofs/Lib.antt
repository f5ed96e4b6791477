mod Write
mod Lookup
pub mod WritesLemmas
pub mod HistoryLemmas
