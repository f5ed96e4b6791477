pub mod certified
