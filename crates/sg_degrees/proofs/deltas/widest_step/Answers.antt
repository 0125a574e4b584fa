use Rattle.std.proofs.Common.{◌+◌, sym, subst, arith}
use Rattle.sg_degrees.proofs.DeltaLemmas.{IsWidestBelow, widest-none, widest-more}
use Rattle.sg_degrees.proofs.deltas.widest_step.Goals as goal

pub loop-place-init : goal.loop-place-init
loop-place-init c = widest-none c.args.lengths.now

pub loop-place-preserved : goal.loop-place-preserved
loop-place-preserved c =
    let l = c.args.lengths.now in
    let place = c.loop-place.place in
    subst (IsWidestBelow l (place + 1)) (sym c.max-widest.ensures) (widest-more l place c.loop-place.widest c.requires c.loop-place.auto.place c.loop-place-test.true c.loop-place.invariant)

pub returns-clause-bound : goal.returns-clause-bound
returns-clause-bound c = λ d s. c.loop-place.invariant.bound d (s.0, omega (arith, s.1, c.loop-place-test.false), s.1, s.2)
