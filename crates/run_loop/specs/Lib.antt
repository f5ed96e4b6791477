pub mod work
pub mod examples
