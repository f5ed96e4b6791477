pub mod OkLemmas
pub mod RoundtripShownLemmas
pub mod RoundtripLineLemmas
pub mod BuiltLemmas
pub mod RoundtripLemmas
