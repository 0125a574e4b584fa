use Rattle.std.proofs.Common.{◌≡◌, ◌+◌, ℕ, length}
use Rattle.std.specs.Prelude.{◌↔◌, Contains}
use Rattle.sg_betti.specs.Links.{IsLink}
use Rattle.sg_betti.proofs.SetLemmas.{IsOldOrAmong}
use Rattle.sg_betti.proofs.search.part.Given as goal

abbrev pub invariant-loop-other : goal.invariant-loop-other
invariant-loop-other l = record {
  near : (k : ℕ) → Contains l.near.items k ↔ IsOldOrAmong (Contains l.initial.near.items) l.left l.other-index (IsLink l.t l.n l.place) k;
  far : (k : ℕ) → Contains l.far.items k ↔ IsOldOrAmong (Contains l.initial.far.items) l.left l.other-index (λ j. ¬ IsLink l.t l.n l.place j) k;
  count : length l.near.items + length l.far.items ≡ length l.initial.near.items + length l.initial.far.items + l.other-index;
}
