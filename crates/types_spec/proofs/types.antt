mod TypeExamples
mod ScopeExamples
pub mod TypeAskedLemmas
pub mod TypeFaultLemmas
pub mod TypeSumLemmas
pub mod SumTypes
pub mod TypeWildcardLemmas
pub mod TypeListLemmas
pub mod TypeNodeLemmas
pub mod TypeShapeLemmas
