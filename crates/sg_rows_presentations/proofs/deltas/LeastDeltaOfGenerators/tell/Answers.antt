use Rattle.sg_rows_presentations.proofs.Bounds.{least_delta-sound}
use Rattle.sg_rows_presentations.proofs.Telling.{tells_least}
use Rattle.sg_rows_presentations.proofs.deltas.LeastDeltaOfGenerators.tell.Goals as goal

pub returns : goal.returns
returns c =
    let G = c.args.generators.now in
    let r = c.min_delta_of.result in
    tells_least G r c.delta_or_fail.result c.delta_or_fail.ensures (least_delta-sound G c.requires.semigroup c.requires.minimal c.requires.fit r c.min_delta_of.ensures) c.min_delta_of.ensures
