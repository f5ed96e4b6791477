pub mod WorkFirstLemmas
pub mod WorkChunkLemmas
pub mod WorkRunLemmas
pub mod WorkAccountLemmas
pub mod EnvironmentLemmas
pub mod WorkGatherLemmas
pub mod ExitLemmas
