pub mod store
pub mod type_table
pub mod partition
