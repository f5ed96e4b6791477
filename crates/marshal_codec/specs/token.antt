pub mod Summary
pub mod TokenFault
pub mod TokenStep
pub mod RemainingSteps
