pub mod Increasing
pub mod CertificateNumbers
pub mod Format
pub mod CertificateReading
pub mod Laws
pub mod PairRuns
pub mod TextWrites
pub mod Coming
