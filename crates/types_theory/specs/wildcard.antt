pub mod Weaker
pub mod Wildcard
