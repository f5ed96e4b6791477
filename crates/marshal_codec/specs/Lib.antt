pub mod codes
pub mod headers
pub mod customs
pub mod token
