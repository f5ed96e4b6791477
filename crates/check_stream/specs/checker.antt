pub mod Again
pub mod Fast
pub mod OpenPositions
pub mod CheckerState
