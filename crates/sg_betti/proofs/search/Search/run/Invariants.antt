use Rattle.std.proofs.Common.{◌+◌, length}
use Rattle.sg_betti.proofs.SearchLemmas.{IsSearch}
use Rattle.sg_betti.proofs.search.Search.run.Given as goal

abbrev pub invariant-loop-place : goal.invariant-loop-place
invariant-loop-place l = IsSearch l.t l.n l.root l.self.reached.items l.self.waiting.items l.self.left.items

abbrev pub decreases-loop-place : goal.decreases-loop-place
decreases-loop-place l = length l.self.waiting.items + length l.self.left.items
