pub mod brackets
pub mod head_rules
pub mod accepted
pub mod declarations
