use Rattle.std.proofs.Common.{◌/◌, sym, arith}
use Rattle.sg_eval.proofs.Deciding.{turned_even, turned_odd}
use Rattle.sg_eval.proofs.signs.turn.Goals as goal

pub returns-then-count-eq0 : goal.returns-then-count-eq0
returns-then-count-eq0 c = sym (turned_even c.args.count (c.args.count / 2) c.args.b (omega (arith, c.if-count-eq0.true)))

pub returns-else-count-eq0 : goal.returns-else-count-eq0
returns-else-count-eq0 c = sym (turned_odd c.args.count (c.args.count / 2) c.args.b (omega (arith, c.if-count-eq0.false)))
