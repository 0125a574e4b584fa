use Rattle.std.proofs.Common.{◌≡◌, ◌+◌, ◌*◌, take, map}
use Rattle.sg_value.specs.Data.{depth_of, depth_of_all}
use Rattle.sg_value.specs.Plain.{contents, contents_of_all}
use Rattle.sg_value.proofs.equality.+equal.Given as goal

-- the entries so far are equal
abbrev pub invariant-all_equal-loop-i : goal.invariant-all_equal-loop-i
invariant-all_equal-loop-i l = map contents (take l.i l.a) ≡ map contents (take l.i l.b)

-- a list is deeper than its entries
abbrev pub decreases-equal : goal.decreases-equal
decreases-equal l = 2 * depth_of (contents l.a.now)

abbrev pub decreases-all_equal : goal.decreases-all_equal
decreases-all_equal l = 2 * depth_of_all (contents_of_all l.a.now) + 1
