pub mod EditWriteLemmas
pub mod EditMadeLemmas
pub mod EditAgreeLemmas
pub mod ApplyLemmas
pub mod GraftLemmas
pub mod GraftAnswers
pub mod EditLineLemmas
pub mod EditWildcardLemmas
