pub mod Sequels
pub mod Runs
pub mod OneEnd
pub mod SomeEnd
pub mod LawfulExpressions
pub mod LawfulStatements
