pub mod SameType
pub mod SameText
