pub mod Scripts
pub mod PlainScripts
