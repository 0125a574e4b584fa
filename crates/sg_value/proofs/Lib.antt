pub mod EqualLists
pub mod Fronts
pub mod Pieces
pub mod Entries
pub mod OneStore
pub mod Joins
