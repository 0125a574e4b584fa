pub mod Value
pub mod Classes
pub mod Heads
pub mod Faults
