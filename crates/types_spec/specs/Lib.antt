pub mod types
pub mod tag_hash
