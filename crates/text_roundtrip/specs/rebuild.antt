pub mod Spoken
pub mod Laws
pub mod Rebuilt
