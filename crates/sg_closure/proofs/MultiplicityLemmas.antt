-- The first of the minimal generators, for the crates above that look for it here.
pub use Rattle.sg_defs.proofs.MinimalLemmas.{first-multiplicity, no_sum}
