-- Passed on from the crates below.
pub use Rattle.sg_classes.proofs.EntryLemmas.{each-kept, member-same, small-same, semigroup-same, generates-same, table-same, table-apery, generates-iff, too_large-iff}
pub use Rattle.sg_defs.proofs.MinimalLemmas.{first-least}
