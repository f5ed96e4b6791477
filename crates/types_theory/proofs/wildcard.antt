pub mod WildcardWeakerLemmas
pub mod WildcardHeadLemmas
pub mod WildcardShapeLemmas
pub mod MixedLemmas
