pub mod DisjointLemmas
