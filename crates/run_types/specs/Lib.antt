pub mod ValueBytes
pub mod Checked
pub mod Fetch
pub mod GatheredFile
pub mod Language
pub mod RequestedTexts
pub mod TypeVerdict
