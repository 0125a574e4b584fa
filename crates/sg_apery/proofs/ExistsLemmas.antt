-- Passed on from the crates below.
pub use Rattle.sg_classes.proofs.ExistsLemmas.{IsCofinite, IsSum, generates-exists}
