pub mod Laws
pub mod TextAnswers
