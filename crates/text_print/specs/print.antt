pub mod FlatText
pub mod Labels
pub mod PrintLevels
pub mod TextUntilAgain
pub mod Write
pub mod PrintRow
pub mod Typed
pub mod PrintWalk
