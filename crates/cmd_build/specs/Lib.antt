pub mod spec
pub mod command
pub mod guess
