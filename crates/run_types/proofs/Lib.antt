pub mod RequestedTypeLemmas
pub mod RunTypesGivenLemmas
pub mod DoneLemmas
pub mod LanguageLemmas
pub mod RunTypesBytesLemmas
pub mod RunTypesVerdictLemmas
pub mod RunTypesScriptLemmas
