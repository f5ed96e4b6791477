pub mod ItemTypes
pub mod OutputLines
