pub mod Lexed
pub mod LexedNumbers
pub mod Laws
