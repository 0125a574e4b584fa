-- Passed on from the crates below.
pub use Rattle.sg_classes.specs.Classes.{IsAboveEntry, IsClassList, IsKunz, IsLoweredBy}
