pub mod NumberedLabels
pub mod Listing
pub mod Readable
pub mod Forests
pub mod PlainLiterals
pub mod Blocks
pub mod Laws
