use Rattle.std.proofs.Common.{◌+◌, arith}
use Rattle.std.proofs.lemmas.Grind.{common_steps}
use Rattle.sg_cut.proofs.FirstLexeme.{quoted_at}
use Rattle.sg_cut.proofs.lexeme.quoted_len.Goals as goal

pub returns-then-byte-eq10-clause-quoted : goal.returns-then-byte-eq10-clause-quoted
returns-then-byte-eq10-clause-quoted c =
    quoted_at c.args.bytes.now c.loop-place.place (grind (arith, common_steps))

pub returns-then-byte-eq34-clause-quoted : goal.returns-then-byte-eq34-clause-quoted
returns-then-byte-eq34-clause-quoted c =
    quoted_at c.args.bytes.now (c.loop-place.place + 1) (grind (arith, common_steps))

pub returns-clause-quoted : goal.returns-clause-quoted
returns-clause-quoted c =
    quoted_at c.args.bytes.now _ (grind (arith, common_steps))
