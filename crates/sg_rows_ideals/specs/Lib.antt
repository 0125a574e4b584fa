pub mod Rows
pub mod Ideals
pub mod Settled
