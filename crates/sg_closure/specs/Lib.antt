pub mod Marks
pub mod Steps
pub mod Differences
pub mod Saturation
