pub mod generator
pub mod spec
pub mod command
