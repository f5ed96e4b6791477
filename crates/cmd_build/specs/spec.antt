pub mod InputTexts
pub mod ExitStatuses
pub mod Laws
