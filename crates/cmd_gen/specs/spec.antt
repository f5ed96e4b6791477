pub mod GenSpec
pub mod ExitStatuses
pub mod Laws
