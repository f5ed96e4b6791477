pub mod write
pub mod canonical_check
pub mod graft
