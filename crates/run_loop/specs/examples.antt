pub mod SmallCommands
pub mod TakenItems
