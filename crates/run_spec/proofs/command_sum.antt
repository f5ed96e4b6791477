pub mod CommandSumLemmas
pub mod CommandSumAgreeLemmas
pub mod CommandSumPartLemmas
pub mod BesideLemmas
