pub mod SearchTrail
pub mod Judge
pub mod Find
pub mod MismatchLine
pub mod Second
