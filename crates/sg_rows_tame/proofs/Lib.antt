pub mod Deciding
pub mod Telling
pub mod OneCommand
pub mod SomeCommand
