pub mod PlaceGraph
pub mod Candidates
pub mod Bounds
