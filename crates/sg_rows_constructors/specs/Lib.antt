pub mod Integers
pub mod Rows
pub mod Makers
pub mod Settled
