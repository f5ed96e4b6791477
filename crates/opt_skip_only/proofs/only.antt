pub mod OnlyWorkLemmas
