pub mod found_positions
pub mod spec
pub mod sweep
pub mod command
