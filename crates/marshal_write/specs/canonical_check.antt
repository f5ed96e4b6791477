pub mod Canonicity
