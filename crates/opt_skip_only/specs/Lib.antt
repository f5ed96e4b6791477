pub mod skip_spec
pub mod only_spec
pub mod skip
pub mod only
