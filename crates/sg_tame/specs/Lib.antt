pub mod Tame
pub mod Needed
pub mod Nearest
pub mod Minimal
pub mod Answers
