use Rattle.sg_rows_lists.proofs.Joining.{joined_more, joined_whole}
use Rattle.sg_rows_lists.proofs.concatenation.copies_of_all.Goals as goal

pub loop-list-preserved : goal.loop-list-preserved
loop-list-preserved c = λ ds is.
    joined_more c.loop-list.copies.items c.add_entries.new.copies.items c.args.lists.now c.loop-list.list-index c.list-item.result ds c.loop-list-test.true c.list-item.is c.in_ok-add_entries.ensures (c.loop-list.invariant ds is)

pub returns : goal.returns
returns c = λ ds is. joined_whole c.loop-list.copies.items c.args.lists.now c.loop-list.list-index ds c.loop-list-test.false (c.loop-list.invariant ds is)
