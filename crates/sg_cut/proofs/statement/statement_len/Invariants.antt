use Rattle.std.proofs.Common.{◌≡◌, ◌+◌, ◌≤◌, ℕ, length}
use Rattle.sg_cut.proofs.Endings.{EndsFrom}
use Rattle.sg_cut.proofs.statement.statement_len.Given as goal

-- where the rest ends from this depth on, all the bytes end, that many bytes further on, and nowhere else
abbrev pub invariant-loop-rest : goal.invariant-loop-rest
invariant-loop-rest l = record {
  counted : l.place + length l.rest ≡ length l.bytes;
  shallow : l.depth ≤ l.place;
  ends : (size : ℕ) → EndsFrom l.depth l.rest size → EndsFrom 0 l.bytes (l.place + size);
  nowhere_else : (size : ℕ) → EndsFrom 0 l.bytes size → (more : ℕ) × (size ≡ l.place + more) × EndsFrom l.depth l.rest more;
}

abbrev pub decreases-loop-rest : goal.decreases-loop-rest
decreases-loop-rest l = length l.rest
