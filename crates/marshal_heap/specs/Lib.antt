pub mod arena
pub mod offsets
pub mod heap
pub mod isomorphism
