pub mod ReadbackLabelLemmas
pub mod LabelReadLemmas
pub mod TreeReadLemmas
pub mod WholeReadLemmas
pub mod ReadbackDeclaredLemmas
