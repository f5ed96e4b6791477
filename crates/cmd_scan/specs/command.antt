pub mod Last
pub mod Passed
pub mod SearchOutput
