-- Membership is decided, for the crates above that look for it here.
pub use Rattle.sg_defs.proofs.DecidedLemmas.{member-decided}
