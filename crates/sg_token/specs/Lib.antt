pub mod FirstByte
pub mod ReservedWords
pub mod Symbols
pub mod Runs
pub mod Splits
pub mod Strings
pub mod Tokens
pub mod Steps
