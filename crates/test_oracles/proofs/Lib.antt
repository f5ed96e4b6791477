pub mod OraclePrefixLemmas
pub mod OracleGraphLemmas
pub mod TokenLemmas
