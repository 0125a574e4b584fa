pub mod WalkLemmas
pub mod SumLemmas
pub mod PlaceLemmas
pub mod OrderLemmas
pub mod AffineLemmas
