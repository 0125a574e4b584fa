use Rattle.std.proofs.Common.{◌+◌, ◌≤◌, length, ap, arith}
use Rattle.std.proofs.lemmas.Result.{err_from_is_err_and}
use Rattle.sg_atoms.specs.Sets.{AreDifferent, IsAdded}
use Rattle.sg_atoms.proofs.FaultLemmas.{spent-weaker}
use Rattle.sg_atoms.proofs.UnitLemmas.{units-none, units-more, units-all, units-spent}
use Rattle.sg_atoms.proofs.units.unit_vectors.Goals as goal

pub loop-place-init : goal.loop-place-init
loop-place-init c = record {
  units = units-none c.args.places c.new-level.result c.new-level.ensures;
  within = omega (arith, ap length c.new-level.ensures);
}

pub loop-place-preserved : goal.loop-place-preserved
loop-place-preserved c = record {
  units = units-more c.args.places c.loop-place.place c.loop-place.level c.insert_within.new.self c.in_ok-vector.vector c.in_ok-vector.ensures c.in_ok-insert_within.ensures.ok c.loop-place.invariant.units;
  within = c.in_ok-insert_within.ensures.within;
}

pub returns-in_err-insert_within-clause-spent : goal.returns-in_err-insert_within-clause-spent
returns-in_err-insert_within-clause-spent c =
    let v = c.in_ok-vector.vector in
    let new = c.insert_within.new.self in
    let p = err_from_is_err_and c.from_residual-in_err-insert_within.result c.from_residual-in_err-insert_within.ensures.1 in
    let many = spent-weaker
    (λ (h : IsAdded c.loop-place.level v new × (c.args.room + 1 ≤ length new) × AreDifferent new).
    units-spent c.args.places c.loop-place.place c.args.room c.loop-place.level new v c.loop-place-test.true c.in_ok-vector.ensures h.0 c.loop-place.invariant.units h.1 h.2)
    c.in_err-insert_within.field-0.0 c.in_err-insert_within.ensures.spent in
    rw (p.1, p.2) many

pub returns-clause-units : goal.returns-clause-units
returns-clause-units c = units-all c.args.places c.loop-place.place c.loop-place.level (omega (arith, c.loop-place-test.false, c.loop-place.auto.place-end)) c.loop-place.invariant.units
