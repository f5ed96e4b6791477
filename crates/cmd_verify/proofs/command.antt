pub mod VerifyOnceLemmas
pub mod VerifyJudgeLemmas
pub mod VerifyReadLemmas
pub mod VerifyFileLemmas
pub mod VerifyAccountLemmas
