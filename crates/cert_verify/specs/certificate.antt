pub mod AcceptedEntry
pub mod Normal
pub mod Verified
pub mod Testing
pub mod Right
pub mod Laws
