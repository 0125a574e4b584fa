-- Passed on from the crate below.
pub use Rattle.sg_classes.specs.Laws.{HasOneMinimalList, TellsMembership, AreAperyLists}
