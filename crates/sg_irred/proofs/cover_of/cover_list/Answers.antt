use Rattle.std.proofs.Common.{arith, to_z, of_z, w64}
use Rattle.sg_irred.proofs.CoverLemmas.{least-class, cover_list-push}
use Rattle.sg_irred.proofs.cover_of.cover_list.Goals as goal

pub loop-i-preserved : goal.loop-i-preserved
loop-i-preserved c =
    let G = c.args.table.now in
    let h = to_z w64 (of_z w64 c.args.h) in
    let w = c.least_in_cover.result in
    let here = least-class G h c.entry.result w c.loop-i.i c.least_in_cover.ensures c.entry.ensures.entry.residue (omega arith) in
    rw c.in_ok-push.ensures.items (cover_list-push G h c.loop-i.i w c.loop-i.list.items here c.loop-i.invariant)
