pub mod Links
pub mod Components
pub mod Limits
pub mod Raised
pub mod Sums
