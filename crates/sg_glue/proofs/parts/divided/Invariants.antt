use Rattle.std.proofs.Common.{◌≡◌, take}
use Rattle.sg_defs.specs.Vectors.{scale}
use Rattle.sg_glue.proofs.parts.divided.Given as goal

abbrev pub invariant-loop-entry : goal.invariant-loop-entry
invariant-loop-entry l = scale l.divisor l.parts ≡ take l.entry-index l.entries
