use Rattle.std.proofs.Common.{ℕ, ◌+◌, ◌%◌, ◌<◌, ◌≤◌, length, slice_index}
use Rattle.sg_tables.proofs.kunz.is_closed_under.Given as goal

abbrev pub invariant-loop-class : goal.invariant-loop-class
invariant-loop-class l = (i : ℕ) → i < l.class → slice_index l.list ((i + l.generator) % length l.list) ≤ slice_index l.list i + l.generator
