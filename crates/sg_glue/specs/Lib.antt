pub mod Gluings
pub mod Limits
pub mod Sums
pub mod Complete
pub mod Glued
