use Rattle.std.proofs.Common.{ℕ}
use Rattle.std.specs.Prelude.{◌↔◌, Contains}
use Rattle.sg_betti.proofs.ElementLemmas.{IsFoundBelow}
use Rattle.sg_betti.proofs.elements.betti_elements.Given as goal

abbrev pub invariant-loop-rest : goal.invariant-loop-rest
invariant-loop-rest l = (n : ℕ) → Contains l.found.items n ↔ IsFoundBelow l.t l.rest-items l.rest-index n
