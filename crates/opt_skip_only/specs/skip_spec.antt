pub mod Skipping
pub mod SkipTables
pub mod SkipRequests
