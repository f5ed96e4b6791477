pub mod leaves
pub mod show
pub mod same_type
pub mod print
