use Rattle.std.proofs.Common.{◌≡◌, ◌+◌, drop, false}
use Rattle.sg_cut.proofs.FirstLexeme.{quoted_size}
use Rattle.sg_cut.proofs.lexeme.quoted_len.Given as goal

-- the string so far, and what is left of it, are the string
abbrev pub invariant-loop-place : goal.invariant-loop-place
invariant-loop-place l = quoted_size false l.bytes ≡ l.place + quoted_size l.escaped (drop l.place l.bytes)
