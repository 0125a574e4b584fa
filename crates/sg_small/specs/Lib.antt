pub mod Fundamental
pub mod Modular
pub mod Sets
pub mod Small
