pub mod Laws
pub mod Numbering
