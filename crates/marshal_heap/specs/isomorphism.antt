pub mod Meeting
pub mod Paired
pub mod SoFar
