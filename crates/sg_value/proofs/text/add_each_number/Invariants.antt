use Rattle.std.proofs.Common.{◌≡◌, ◌++◌, take, map, decimal}
use Rattle.sg_value.specs.Text.{joined}
use Rattle.sg_value.proofs.text.add_each_number.Given as goal

-- the numbers so far are there
abbrev pub invariant-loop-i : goal.invariant-loop-i
invariant-loop-i l = l.out ≡ l.fn.out ++ joined (take l.i (map decimal l.numbers))
