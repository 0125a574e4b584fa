use Rattle.std.proofs.Common.{◌≡◌, ◌+◌, ◌-◌, ◌^◌, ◌<◌, get_or, arith}
use Rattle.sg_tables.proofs.CircleLemmas.{known-set}
use Rattle.sg_tables.proofs.circles.lower.Goals as goal

pub returns-then-candidate-table-clause-known : goal.returns-then-candidate-table-clause-known
returns-then-candidate-table-clause-known c = λ M member known.
    let t = c.args.table.now in
    let v = c.saturating_add-candidate.result in
    let fits : v < 2 ^ 64 - 1 = omega arith in
    let sum : v ≡ get_or t c.args.from 0 + c.args.generator = omega arith in
    known-set M t c.args.generator c.args.from c.args.target v member known c.requires.from c.requires.target sum fits c.if-candidate-table.true
