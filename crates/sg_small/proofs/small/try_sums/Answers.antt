use Rattle.std.proofs.Common.{◌-◌, ◌≤◌, length, get_or, arith}
use Rattle.sg_small.proofs.SmallLemmas.{up_to, far-sums}
use Rattle.sg_small.proofs.small.try_sums.Goals as goal

pub overflow_sub-list-2 : goal.overflow_sub-list-2
overflow_sub-list-2 c = up_to c.args.list.now c.requires.list c.args.which (length c.args.list.now - 1) (omega (arith, c.requires.which)) (omega (arith, c.requires.which))

pub returns-then-list-which-clause-closed : goal.returns-then-list-which-clause-closed
returns-then-list-which-clause-closed c = λ e.
    let list = c.args.list.now in
    let low : get_or list c.args.which 0 ≤ get_or list (length list - 1) 0 = up_to list c.requires.list c.args.which (length list - 1) (omega (arith, c.requires.which)) (omega (arith, c.requires.which)) in
    far-sums list c.requires.list c.args.which c.requires.which (omega (arith, low, c.if-list-which.true))
