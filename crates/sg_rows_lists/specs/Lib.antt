pub mod Integers
pub mod Concatenations
pub mod Lists
