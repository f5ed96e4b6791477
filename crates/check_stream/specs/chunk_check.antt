pub mod Inspection
pub mod StreamCheck
pub mod Laws
