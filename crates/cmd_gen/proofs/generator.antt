pub mod GeneratorItemLemmas
pub mod GeneratorLineLemmas
pub mod GeneratorObjectLemmas
pub mod WorkedLemmas
