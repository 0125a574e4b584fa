pub mod DistanceLemmas
pub mod MinimalLemmas
pub mod LeastLemmas
pub mod NearestLemmas
pub mod RowLemmas
pub mod DegreeLemmas
pub mod LeastDistances
pub mod TameExists
