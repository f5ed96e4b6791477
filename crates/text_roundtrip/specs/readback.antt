pub mod Back
pub mod ReadBack
pub mod Laws
