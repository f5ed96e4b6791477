pub mod Ranked
pub mod KnownThings
pub mod AcceptedNames
pub mod AcceptedBrackets
pub mod Accepted
