-- Passed on from the crates below.
pub use Rattle.sg_classes.proofs.GeneratorLemmas.{contains-place, place-contains, member-listed, holds-from_entries, member-split, member-divides, entry-positive, push_cases, each-push}
