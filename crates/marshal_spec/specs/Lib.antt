pub mod format
pub mod canonical
