pub mod CertifyThenVerify
pub mod ShownLines
