use Rattle.std.proofs.Common.{length, ap, arith}
use Rattle.sg_tame.specs.Nearest.{AreNearAt}
use Rattle.sg_tame.proofs.LeastLemmas.{least-none, least-more, least-all}
use Rattle.sg_tame.proofs.degree.raised_by.Goals as goal

pub loop-place-init : goal.loop-place-init
loop-place-init c = least-none c.args.enough (AreNearAt c.args.t.now c.args.v)

pub raised_at-greatest-requires-clause-place : goal.raised_at-greatest-requires-clause-place
raised_at-greatest-requires-clause-place c = omega (arith, c.loop-place-test.true, c.len-places.ensures, ap length c.generators.ensures.same)

pub loop-place-preserved : goal.loop-place-preserved
loop-place-preserved c =
    least-more c.args.enough c.loop-place.greatest c.raised_at-greatest.result c.loop-place.place (AreNearAt c.args.t.now c.args.v) c.loop-place.invariant c.raised_at-greatest.ensures

pub returns : goal.returns
returns c =
    least-all c.args.enough c.loop-place.greatest c.loop-place.place (length c.args.t.now) (AreNearAt c.args.t.now c.args.v)
    (omega (arith, c.loop-place-test.false, c.loop-place.auto.place-end, c.len-places.ensures, ap length c.generators.ensures.same)) c.loop-place.invariant
