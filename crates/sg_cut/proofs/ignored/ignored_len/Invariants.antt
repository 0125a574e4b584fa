use Rattle.std.proofs.Common.{◌≡◌, ◌+◌, ℕ, length}
use Rattle.sg_cut.proofs.Beginnings.{BeginsFrom}
use Rattle.sg_cut.proofs.ignored.ignored_len.Given as goal

-- where the rest begins, all the bytes begin, that many bytes further on
abbrev pub invariant-loop-rest : goal.invariant-loop-rest
invariant-loop-rest l = record {
  counted : l.place + length l.rest ≡ length l.bytes;
  begins : (begin : ℕ) → BeginsFrom l.rest begin → BeginsFrom l.bytes (l.place + begin);
}

abbrev pub decreases-loop-rest : goal.decreases-loop-rest
decreases-loop-rest l = length l.rest
