pub mod spec
pub mod value_items
pub mod command
