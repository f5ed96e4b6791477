pub mod FitLemmas
pub mod JoinLemmas
pub mod NarrowLemmas
pub mod NarrowSteps
pub mod PrettyPartLemmas
pub mod ShortLemmas
