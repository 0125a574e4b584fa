use Rattle.std.proofs.Common.{ℕ}
use Rattle.std.specs.Prelude.{◌↔◌, Contains}
use Rattle.sg_betti.proofs.ElementLemmas.{IsOldOrSum}
use Rattle.sg_betti.proofs.elements.add_sums.Given as goal

abbrev pub invariant-loop-place : goal.invariant-loop-place
invariant-loop-place l = (m : ℕ) → Contains l.found.items m ↔ IsOldOrSum (Contains l.initial.found.items) l.t l.rest l.place m
