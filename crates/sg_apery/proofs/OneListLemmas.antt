-- Passed on from the crates below.
pub use Rattle.sg_classes.proofs.OneListLemmas.{same-increasing, one-list, entry-listed, one-minimal_list}
