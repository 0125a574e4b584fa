use Rattle.std.proofs.Common.{arith}
use Rattle.std.proofs.lemmas.Result.{err_from_is_err_and}
use Rattle.sg_atoms.proofs.FaultLemmas.{spent-weaker}
use Rattle.sg_atoms.proofs.GrowthLemmas.{before-more, before-all, spent-at}
use Rattle.sg_atoms.proofs.search.grow.Goals as goal

pub returns-in_err-grow_at-clause-spent : goal.returns-in_err-grow_at-clause-spent
returns-in_err-grow_at-clause-spent c =
    let p = err_from_is_err_and c.from_residual.result c.from_residual.ensures.1 in
    let many = spent-weaker (spent-at c.args.equations.now c.args.atoms.now c.args.vector.now c.args.next.now c.loop-place.next c.loop-place.place c.args.room c.loop-place.invariant.grown)
    c.in_err-grow_at.field-0.0 c.in_err-grow_at.ensures.spent in
    rw (p.1, p.2) many

pub loop-place-preserved : goal.loop-place-preserved
loop-place-preserved c = record {
  grown = before-more c.args.equations.now c.args.atoms.now c.args.vector.now c.args.next.now c.loop-place.next c.grow_at.new.next c.loop-place.place c.loop-place.invariant.grown c.in_ok-grow_at.ensures.grown;
  within = c.in_ok-grow_at.ensures.within;
}

pub returns-clause-grown : goal.returns-clause-grown
returns-clause-grown c =
    before-all c.args.equations.now c.args.atoms.now c.args.vector.now c.args.next.now c.loop-place.next c.loop-place.place
    (omega (arith, c.loop-place-test.false, c.places-place-end.ensures.number)) c.loop-place.invariant.grown
