pub mod CertifiedGraphLemmas
pub mod CertifiedPositionLemmas
pub mod CertifiedStatedLemmas
pub mod CertifiedWriteLemmas
pub mod CertifiedTakenLemmas
pub mod CertifiedLineLemmas
pub mod CertifiedAcceptedLemmas
pub mod CertifiedShownLemmas
