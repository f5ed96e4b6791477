pub mod theory
pub mod mismatch_theory
pub mod checker
pub mod truncated
pub mod mismatch_search
pub mod chunk_check
