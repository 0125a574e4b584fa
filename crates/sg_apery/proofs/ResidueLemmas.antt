-- Passed on from the crates below.
pub use Rattle.sg_classes.proofs.ResidueLemmas.{same_residue-add, IsReached, reached-times, divisor-reached, gcd-range, common_divisor-one, member-residue, residue-sum, zero-residue}
