pub mod Levels
pub mod Matrices
pub mod Sets
pub mod Faults
pub mod Growth
