pub mod Form
pub mod Signature
pub mod Lists
pub mod Users
pub mod Refinement
pub mod Start
pub mod FoundClasses
