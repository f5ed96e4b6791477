pub mod fits
pub mod scan
pub mod check
