pub mod TableDecides
pub mod LeastWays
