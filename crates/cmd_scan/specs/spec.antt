pub mod Searching
pub mod ExitStatuses
pub mod Laws
