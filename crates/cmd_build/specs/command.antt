pub mod GivenLines
pub mod Guessed
pub mod InputLines
pub mod LineSteps
