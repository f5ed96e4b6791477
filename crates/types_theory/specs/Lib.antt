pub mod typing
pub mod equality
pub mod table
pub mod type_variables
pub mod wildcard
