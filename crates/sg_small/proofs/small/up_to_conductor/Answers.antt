use Rattle.sg_small.proofs.TrimLemmas.{trimmed-small, trimmed-same, trimmed-gap}
use Rattle.sg_small.proofs.small.up_to_conductor.Goals as goal

pub returns-clause-list : goal.returns-clause-list
returns-clause-list c =
    let h = c.conductor_place.ensures in
    trimmed-small c.args.list.now c.requires c.conductor_place.result h.inside h.run h.gap

pub returns-clause-same : goal.returns-clause-same
returns-clause-same c =
    let h = c.conductor_place.ensures in
    trimmed-same c.args.list.now c.requires c.conductor_place.result h.inside h.run h.gap

pub returns-clause-gap : goal.returns-clause-gap
returns-clause-gap c =
    let h = c.conductor_place.ensures in
    trimmed-gap c.args.list.now c.requires c.conductor_place.result h.inside h.run h.gap
