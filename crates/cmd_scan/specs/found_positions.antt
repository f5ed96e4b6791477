pub mod InputParts
pub mod ValuePositions
pub mod Laws
