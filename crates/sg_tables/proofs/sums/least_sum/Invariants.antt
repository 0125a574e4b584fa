use Rattle.std.proofs.Common.{◌≡◌, ℕ, ◌+◌, ◌%◌, ◌<◌, ◌≤◌, length, slice_index}
use Rattle.sg_tables.proofs.sums.least_sum.Given as goal

-- the least of the sums so far
abbrev pub invariant-loop-first : goal.invariant-loop-first
invariant-loop-first l = (i j : ℕ) → i < l.first → j < length l.least → (i + j) % length l.least ≡ l.class → l.found ≤ slice_index l.least i + slice_index l.least j
