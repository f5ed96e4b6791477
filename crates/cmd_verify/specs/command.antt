pub mod VerifiedSections
pub mod Judged
pub mod VerifyProgress
pub mod CertificateFile
pub mod VerifyRequest
