use Rattle.std.proofs.Common.{ℕ}
use Rattle.std.specs.Prelude.{◌↔◌, Contains}
use Rattle.sg_degrees.proofs.ValueLemmas.{IsValueBelow}
use Rattle.sg_degrees.proofs.betti.values_of.Given as goal

abbrev pub invariant-loop-relation : goal.invariant-loop-relation
invariant-loop-relation l = (n : ℕ) → Contains l.values.items n ↔ IsValueBelow l.relation-items l.relation-index n
