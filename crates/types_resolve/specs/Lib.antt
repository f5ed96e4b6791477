pub mod scope
pub mod occurrences
