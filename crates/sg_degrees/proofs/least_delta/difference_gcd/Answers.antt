use Rattle.sg_degrees.proofs.LeastLemmas.{gcd-all, gcd-first, gcd-next}
use Rattle.sg_degrees.proofs.least_delta.difference_gcd.Goals as goal

pub loop-place-init : goal.loop-place-init
loop-place-init c = gcd-first c.args.generators.now

pub loop-place-preserved : goal.loop-place-preserved
loop-place-preserved c = gcd-next c.args.generators.now c.loop-place.place c.loop-place.common c.gcd-common.result c.loop-place-test.true c.loop-place.invariant c.gcd-common.ensures

pub returns : goal.returns
returns c = gcd-all c.args.generators.now c.loop-place.place c.loop-place.common c.loop-place-test.false c.loop-place.invariant
