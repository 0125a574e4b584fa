pub mod Reading
pub mod Bounds
pub mod Telling
pub mod OneCommand
pub mod SomeCommand
