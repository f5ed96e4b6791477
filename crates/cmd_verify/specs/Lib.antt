pub mod spec
pub mod command
