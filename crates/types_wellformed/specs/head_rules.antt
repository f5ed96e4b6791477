pub mod Broken
pub mod NumberedTypes
pub mod Ordered
pub mod Rules
pub mod Apart
