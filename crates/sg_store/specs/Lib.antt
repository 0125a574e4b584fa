pub mod Fit
pub mod Interned
pub mod Held
pub mod Keyed
pub mod Attributes
pub mod OneAttribute
