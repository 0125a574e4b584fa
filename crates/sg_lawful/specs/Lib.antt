pub mod Generators
pub mod Lawful
pub mod Spans
