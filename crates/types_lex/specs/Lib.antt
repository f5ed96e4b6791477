pub mod LexText
pub mod Lexeme
pub mod Lexemes
pub mod Lexer
pub mod Sources
pub mod Brief
