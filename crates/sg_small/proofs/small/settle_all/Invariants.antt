use Rattle.std.proofs.Common.{ℕ, ◌<◌}
use Rattle.std.specs.Prelude.{◌⊎◌}
use Rattle.sg_small.specs.Small.{AreMarked, IsClosedAt, IsSumAt}
use Rattle.sg_small.proofs.small.settle_all.Given as goal

abbrev pub invariant-loop-which : goal.invariant-loop-which
invariant-loop-which l = record {
  marks : AreMarked l.list l.marked;
  done : (i : ℕ) → 0 < i → i < l.which → IsClosedAt l.list i ⊎ IsSumAt l.list i;
}
