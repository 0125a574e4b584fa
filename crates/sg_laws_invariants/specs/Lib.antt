pub mod Decided
pub mod Invariants
pub mod Sets
