pub mod SkipCommand
