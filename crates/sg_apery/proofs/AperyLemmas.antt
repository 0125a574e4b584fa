-- Passed on from the crates below.
pub use Rattle.sg_classes.proofs.AperyLemmas.{congruent-split, member-above, apery-member, closed-bound, apery-from_closed, member-decided}
