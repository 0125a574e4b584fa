-- Passed on from the crates below.
pub use Rattle.sg_classes.proofs.LoweredLemmas.{lowered-more, lowered-none, writes-back}
