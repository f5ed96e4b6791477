pub mod SkipCommandLemmas
