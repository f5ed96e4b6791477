pub mod CommandLine
pub mod Outcome
pub mod RefusalText
pub mod Status
