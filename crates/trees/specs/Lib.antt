pub mod search_trees
pub mod value_verdict
