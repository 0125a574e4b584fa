use Rattle.std.proofs.Common.{◌≡◌, ◌++◌, ◌+◌, ◌*◌, take}
use Rattle.sg_value.specs.Data.{depth_of, depth_of_all}
use Rattle.sg_value.specs.Plain.{contents, contents_of_all, plain_of_all}
use Rattle.sg_value.specs.Text.{entry_texts, joined}
use Rattle.sg_value.proofs.print.+print.Given as goal

-- the entries so far are there
abbrev pub invariant-add_each_entry-loop-i : goal.invariant-add_each_entry-loop-i
invariant-add_each_entry-loop-i g l = l.out ≡ l.fn.out ++ joined (take l.i (entry_texts (plain_of_all (g.N.Names.named l.names) l.items)))

-- a list is deeper than its entries
abbrev pub decreases-add_entry : goal.decreases-add_entry
decreases-add_entry g l = 4 * depth_of (contents l.v.now)

abbrev pub decreases-add_list : goal.decreases-add_list
decreases-add_list g l = 4 * depth_of_all (contents_of_all l.items.now) + 3

abbrev pub decreases-add_each_entry : goal.decreases-add_each_entry
decreases-add_each_entry g l = 4 * depth_of_all (contents_of_all l.items.now) + 2

abbrev pub decreases-add_separated_entry : goal.decreases-add_separated_entry
decreases-add_separated_entry g l = 4 * depth_of (contents l.v.now) + 1
