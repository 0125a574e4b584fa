use Rattle.std.proofs.Common.{ℕ, ◌+◌, ◌<◌, ◌≤◌, slice_index, pos, ◌+ℤ◌}
use Rattle.sg_defs.specs.Membership.{IsIntegerMember}
use Rattle.sg_invar.proofs.pseudo.is_pseudo_frobenius.Given as goal

abbrev pub invariant-loop-step : goal.invariant-loop-step
invariant-loop-step l = record {
  front : (k : ℕ) → k < l.step → IsIntegerMember l.table (l.x +ℤ pos (slice_index l.table k));
  back : (k : ℕ) → k < l.count → l.count ≤ k + l.step → IsIntegerMember l.table (l.x +ℤ pos (slice_index l.table k));
}
