pub mod certificate
pub mod table_independence
