pub mod Entries
pub mod Queries
pub mod Vars
pub mod Process
pub mod Expressions
pub mod Statements
pub mod Lawful
pub mod Laws
