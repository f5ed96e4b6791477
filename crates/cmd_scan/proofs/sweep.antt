pub mod SweepNextLemmas
pub mod SweepPartsLemmas
pub mod ClaimLemmas
