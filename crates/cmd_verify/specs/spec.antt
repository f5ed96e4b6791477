pub mod Verification
pub mod ExitStatuses
pub mod Laws
