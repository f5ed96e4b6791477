pub mod Decidable
pub mod CompleteFaults
pub mod SearchLaws
pub mod LeastWay
pub mod StepLaws
