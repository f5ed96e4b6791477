pub mod OneListLemmas
pub mod VerifierTableLemmas
pub mod VerifierReachedLemmas
