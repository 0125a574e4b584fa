-- Passed on from the crate below.
pub use Rattle.sg_classes.specs.Entries.{IsGreatest, IsDivisorOfAll, AreSmall, HasLarge}
