pub mod Sums
pub mod Refusal
pub mod Step
pub mod Prefix
pub mod Judgement
pub mod Token
pub mod Graph
