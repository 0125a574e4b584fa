-- Passed on from the crates below.
pub use Rattle.sg_classes.proofs.EntryLemmas.{each-kept, member-same, small-same, semigroup-same, generates-same, table-same, table-apery, generates-iff, too_large-iff}
pub use Rattle.sg_classes.proofs.KunzLemmas.{above-zero, above-entry, above-modulus, class_generators, above-add, above-member, entry-made, modulus-listed, member-made, gen-positive, class-semigroup, kunz-table, kunz-has_table, kunz-generated_table, kunz-apery, kunz-minimal_table, kunz-from_closed}
pub use Rattle.sg_classes.proofs.TableLemmas.{contains-natural, table-modulo, table-member, table-long, table-zero}
