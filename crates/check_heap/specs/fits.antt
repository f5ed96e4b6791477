pub mod Needs
pub mod ObjectRow
