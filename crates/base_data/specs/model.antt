pub mod Bytes
pub mod Graph
pub mod PathText
