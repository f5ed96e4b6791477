pub mod ValueItemReadLemmas
