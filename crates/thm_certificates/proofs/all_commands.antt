pub mod AllCommandsLemmas
