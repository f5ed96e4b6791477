pub mod TypeFaults
pub mod PlacedTypes
pub mod Listed
