pub mod CertifiedOutput
pub mod CertifyProgress
