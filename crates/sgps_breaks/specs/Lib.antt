pub mod Drip
