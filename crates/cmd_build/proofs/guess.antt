pub mod GuessEncodedLemmas
