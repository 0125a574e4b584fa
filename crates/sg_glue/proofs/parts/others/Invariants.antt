use Rattle.std.proofs.Common.{take}
use Rattle.std.specs.Prelude.{Contains}
use Rattle.std.specs.List.Sorted.{IsStrictlyIncreasing}
use Rattle.sg_glue.proofs.PartLemmas.{IsKept}
use Rattle.sg_glue.proofs.parts.others.Given as goal

abbrev pub invariant-loop-entry : goal.invariant-loop-entry
invariant-loop-entry l = record {
  ascending : IsStrictlyIncreasing l.rest;
  kept : IsKept (λ g. Contains l.taken g → ⊥) (take l.entry-index l.entries) l.rest;
}
