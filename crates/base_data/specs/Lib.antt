pub mod model
pub mod lines
