pub mod Maximal
