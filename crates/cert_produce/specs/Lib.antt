pub mod LeastFaults
pub mod CertifiedVerdict
pub mod Laws
