pub mod Closures
pub mod Shapes
