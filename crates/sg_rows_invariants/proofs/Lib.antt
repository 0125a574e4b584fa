pub mod Counting
pub mod Bounds
pub mod OneFact
pub mod SomeFact
