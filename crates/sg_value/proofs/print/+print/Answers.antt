use Rattle.std.proofs.Common.{◌<◌, ◌≤◌, arith, length}
use Rattle.sg_value.specs.Data.{depth_of, depth_of_all}
use Rattle.sg_value.specs.Plain.{contents, contents_of_all, plain_of_all}
use Rattle.sg_value.specs.Text.{entry_texts}
use Rattle.sg_value.proofs.Entries.{AllKnownIn-at, length-entry_texts, entries-next}
use Rattle.sg_value.proofs.Fronts.{front_more, front_after, next_added, next_front, Adds_err, Adds_each, Adds-after}
use Rattle.sg_value.proofs.Pieces.{joined-all}
use Rattle.sg_value.proofs.EqualLists.{depth_of-at}
use Rattle.sg_value.proofs.print.+print.Goals as goal

pub add_list-returns-in_err-add : goal.add_list-returns-in_err-add
add_list-returns-in_err-add g t c = Adds_err _ _ _ _ c.from_residual.ensures.0 (front_more _ _ _ _ c.in_err-add.ensures.err)

pub add_list-returns-in_err-add_each_entry : goal.add_list-returns-in_err-add_each_entry
add_list-returns-in_err-add_each_entry g t c =
    Adds_err _ _ _ _ c.from_residual-in_err-add_each_entry.ensures.0 (front_after _ _ _ _ _ c.in_ok-add.ensures.ok (front_more _ _ _ _ c.in_err-add_each_entry.ensures.err))

pub add_list-returns : goal.add_list-returns
add_list-returns g t c = Adds-after _ _ _ _ _ _ c.in_ok-add.ensures.ok (Adds-after _ _ _ _ _ _ c.in_ok-add_each_entry.ensures.ok c.add-2.ensures)

pub add_separated_entry-returns-in_err-add_separator : goal.add_separated_entry-returns-in_err-add_separator
add_separated_entry-returns-in_err-add_separator g t c = Adds_err _ _ _ _ c.from_residual.ensures.0 (front_more _ _ _ _ c.in_err-add_separator.ensures.err)

pub add_separated_entry-returns : goal.add_separated_entry-returns
add_separated_entry-returns g t c = Adds-after _ _ _ _ _ _ c.in_ok-add_separator.ensures.ok c.add_entry.ensures

pub add_each_entry-returns-in_err-add_separated_entry : goal.add_each_entry-returns-in_err-add_separated_entry
add_each_entry-returns-in_err-add_separated_entry g t c =
    let next = entries-next (g.N.Names.named c.args.names.now) c.args.items.now c.loop-i.i c.index-items-i.result c.index-items-i.result c.loop-i-test.true c.index-items-i.is in
    Adds_err _ _ _ _ c.from_residual.ensures.0 (next_front _ _ _ _ _ _ _ next c.loop-i.invariant c.in_err-add_separated_entry.ensures.err)

pub add_each_entry-loop-i-preserved : goal.add_each_entry-loop-i-preserved
add_each_entry-loop-i-preserved g t c =
    let next = entries-next (g.N.Names.named c.args.names.now) c.args.items.now c.loop-i.i c.index-items-i.result c.index-items-i.result c.loop-i-test.true c.index-items-i.is in
    next_added _ _ _ _ _ _ _ next c.loop-i.invariant c.in_ok-add_separated_entry.ensures.ok

pub add_each_entry-returns : goal.add_each_entry-returns
add_each_entry-returns g t c =
    let names = g.N.Names.named c.args.names.now in
    let done : length (entry_texts (plain_of_all names c.args.items.now)) ≤ c.loop-i.i = rw length-entry_texts c.loop-i-test.false in
    Adds_each _ _ _ _ (joined-all _ _ done) c.loop-i.invariant

pub add_each_entry-add_separated_entry-requires : goal.add_each_entry-add_separated_entry-requires
add_each_entry-add_separated_entry-requires g t c κs outlives =
    let items = c.args.items.now in
    let v = c.index-items-i.result in
    let within : c.loop-i.i < length items = c.loop-i-test.true in
    let known = AllKnownIn-at (g.N.Names.named c.args.names.now) items c.loop-i.i v v c.requires.known within c.index-items-i.is in
    let smaller : depth_of (contents v) ≤ depth_of_all (contents_of_all items) = rw c.index-items-i.is (depth_of-at items c.loop-i.i v within) in
    (omega (arith, smaller, c.decreases), (outlives, known))
