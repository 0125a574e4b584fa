use Rattle.std.proofs.Common.{length, arith}
use Rattle.sg_tame.specs.Nearest.{IsRowNear}
use Rattle.sg_tame.proofs.LeastLemmas.{least-none, least-more, least-all}
use Rattle.sg_tame.proofs.degree.raised_from.Goals as goal

pub loop-from-init : goal.loop-from-init
loop-from-init c = least-none c.args.enough (IsRowNear c.args.t.now c.args.member c.args.rows.now c.args.place)

pub loop-from-preserved : goal.loop-from-preserved
loop-from-preserved c =
    least-more c.args.enough c.loop-from.greatest c.raised_to-greatest.result c.loop-from.from (IsRowNear c.args.t.now c.args.member c.args.rows.now c.args.place) c.loop-from.invariant c.raised_to-greatest.ensures

pub returns : goal.returns
returns c =
    least-all c.args.enough c.loop-from.greatest c.loop-from.from (length c.args.rows.now) (IsRowNear c.args.t.now c.args.member c.args.rows.now c.args.place)
    (omega (arith, c.loop-from-test.false, c.loop-from.auto.from-end)) c.loop-from.invariant
