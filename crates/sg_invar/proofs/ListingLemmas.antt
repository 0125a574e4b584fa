-- Passed on from below.
pub use Rattle.sg_classes.proofs.ListingLemmas.{ListsBelow, lists-none, lists-skip, increasing-push, lists-push, lists-same, lists-all}
