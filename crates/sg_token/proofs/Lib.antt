pub mod NumberLemmas
pub mod FallLemmas
pub mod SymbolLemmas
pub mod StepLemmas
pub mod SomeTokens
