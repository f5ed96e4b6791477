pub mod TruncatedLemmas
pub mod TruncatedPrefixLemmas
