pub mod StatementLemmas
pub mod UniqueStatementLemmas
pub mod WellFormedLemmas
pub mod OutcomeLemmas
pub mod ReaderLemmas
pub mod SomeStatements
pub mod SomeOutcome
