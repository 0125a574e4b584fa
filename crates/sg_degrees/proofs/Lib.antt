pub mod BettiLemmas
pub mod ClassLemmas
pub mod DegreeLemmas
pub mod DeltaLemmas
pub mod GreatestLemmas
pub mod LeastLemmas
pub mod ValueLemmas
