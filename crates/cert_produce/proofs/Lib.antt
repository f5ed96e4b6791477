pub mod ProducedLeastLemmas
pub mod ProducedOrderLemmas
pub mod CertifiedLemmas
