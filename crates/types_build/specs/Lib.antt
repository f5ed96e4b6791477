pub mod representation
pub mod builder
