use Rattle.std.proofs.Common.{ℕ}
use Rattle.std.specs.Prelude.{Contains, ◌↔◌}
use Rattle.sg_factor.proofs.StepLemmas.{IsStepBelow}
use Rattle.sg_factor.proofs.deltas.delta_of.Given as goal

abbrev pub invariant-loop-place : goal.invariant-loop-place
invariant-loop-place l = (d : ℕ) → Contains l.steps.items d ↔ IsStepBelow l.lengths l.place d
