pub mod Classes
pub mod Entries
pub mod Fit
pub mod Laws
pub mod Table
