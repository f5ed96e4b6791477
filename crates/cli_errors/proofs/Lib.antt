pub mod ErrorLineLemmas
