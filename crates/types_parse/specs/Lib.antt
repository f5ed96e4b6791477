pub mod grammar
pub mod parse
