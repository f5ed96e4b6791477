pub mod Copies
pub mod Laws
pub mod ObjectOrder
pub mod Renamed
