pub mod Bytes
pub mod Lexemes
pub mod Cut
pub mod Lines
