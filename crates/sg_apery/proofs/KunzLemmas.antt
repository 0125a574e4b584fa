-- Passed on from the crates below.
pub use Rattle.sg_classes.proofs.KunzLemmas.{above-zero, above-entry, above-modulus, class_generators, above-add, above-member, entry-made, modulus-listed, member-made, gen-positive, class-semigroup, kunz-table, kunz-has_table, kunz-generated_table, kunz-apery, kunz-minimal_table, kunz-from_closed}
pub use Rattle.sg_classes.proofs.ResidueLemmas.{same_residue-add, IsReached, reached-times, divisor-reached, gcd-range, common_divisor-one, member-residue, residue-sum, zero-residue}
