pub mod Inserting
pub mod Interning
