use Rattle.std.specs.Fmt.{signed_decimal}
use Rattle.std.proofs.Common.{◌≡◌, ◌++◌, take, map}
use Rattle.sg_value.specs.Text.{joined}
use Rattle.sg_value.proofs.text.add_each_integer.Given as goal

-- the numbers so far are there
abbrev pub invariant-loop-i : goal.invariant-loop-i
invariant-loop-i l = l.out ≡ l.fn.out ++ joined (take l.i (map signed_decimal l.numbers))
