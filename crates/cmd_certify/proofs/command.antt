pub mod CertifyOnceLemmas
pub mod CertifyLineLemmas
pub mod CertifyReadLemmas
pub mod CertifyAccountLemmas
