pub mod Turns
pub mod Plays
pub mod SomePlays
pub mod Leaving
