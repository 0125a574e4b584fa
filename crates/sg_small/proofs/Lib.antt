pub mod ComplementLemmas
pub mod FundamentalLemmas
pub mod LeastLemmas
pub mod ListedLemmas
pub mod ModularLemmas
pub mod SmallLemmas
pub mod TrimLemmas
