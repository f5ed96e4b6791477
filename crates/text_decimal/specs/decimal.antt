pub mod Limbs
pub mod Doubles
pub mod Layout
pub mod Shortest
pub mod DecimalReading
pub mod Laws
