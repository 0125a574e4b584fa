pub mod Greatest
pub mod Lengths
pub mod Values
