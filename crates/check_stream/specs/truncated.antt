pub mod Truncated
pub mod Laws
