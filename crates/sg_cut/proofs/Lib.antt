pub mod Runs
pub mod FirstLexeme
pub mod Endings
pub mod Beginnings
pub mod Following
pub mod Outcomes
