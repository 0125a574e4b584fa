use Rattle.std.proofs.Common.{◌≡◌, ℕ, [], ◌∷◌}
use Rattle.std.specs.Prelude.{◌↔◌, Contains}
use Rattle.sg_betti.proofs.SearchLemmas.{IsOtherBelow}
use Rattle.sg_betti.proofs.search.Search.begin.Given as goal

abbrev pub invariant-loop-place : goal.invariant-loop-place
invariant-loop-place l = record {
  waiting : l.self.waiting.items ≡ l.root ∷ [];
  left : (k : ℕ) → Contains l.self.left.items k ↔ IsOtherBelow l.t l.n l.root l.place k;
}
