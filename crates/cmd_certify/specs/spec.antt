pub mod RefusedEnd
pub mod Certification
pub mod Laws
pub mod ExitStatuses
