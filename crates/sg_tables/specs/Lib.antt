pub mod Circles
pub mod Closed
pub mod Few
pub mod Found
pub mod Minimal
pub mod Modulus
pub mod Spread
pub mod Sums
