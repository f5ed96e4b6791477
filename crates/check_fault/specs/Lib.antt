pub mod Laws
pub mod FaultText
pub mod Shared
pub mod Near
pub mod Tried
