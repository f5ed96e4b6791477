pub mod CommandSum
pub mod Beside
