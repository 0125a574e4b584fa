use Rattle.std.proofs.Common.{ℕ, ◌<◌}
use Rattle.sg_tame.specs.Nearest.{IsLeastFrom, IsRowNear}
use Rattle.sg_tame.proofs.degree.raised_from.Given as goal

abbrev pub invariant-loop-from : goal.invariant-loop-from
invariant-loop-from l = IsLeastFrom l.enough (λ N. (k : ℕ) → k < l.from → IsRowNear l.t l.member l.rows l.place k N) l.greatest
