use Rattle.sg_tables.proofs.ClosedLemmas.{kunz-closed, closed-part}
use Rattle.sg_tables.proofs.kunz.is_closed_by.Goals as goal

pub returns : goal.returns
returns c =
    let t = c.args.list.now in
    let D = c.args.generators.now in
    let M = c.args.part.now in
    let r = c.requires in
    ((λ h. kunz-closed t D M r.classes r.generators r.part (c.is_closed_under_each.ensures.0 h)), (λ k. c.is_closed_under_each.ensures.1 (closed-part t D M r.classes r.generators r.part k)))
