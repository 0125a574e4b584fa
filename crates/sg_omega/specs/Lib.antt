pub mod Minimal
pub mod Lengths
pub mod Readings
pub mod Limits
