pub mod decimal
pub mod texts
pub mod scripts
pub mod decimal_readback
