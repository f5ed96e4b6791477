pub mod ReachedTypes
