pub mod Tree
pub mod TreeView
pub mod WellFormed
