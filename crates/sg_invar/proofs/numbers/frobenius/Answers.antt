use Rattle.std.proofs.Common.{◌≡◌, ◌+◌, subst, sym, arith, pos, ◌-ℤ◌, to_z, of_z, w64, get_or}
use Rattle.std.proofs.lemmas.Int.{ints}
use Rattle.sg_defs.specs.Invariants.{IsFrobenius}
use Rattle.sg_invar.proofs.FrobeniusLemmas.{IsGreatest, greatest-more, greatest-all, frobenius-from_greatest, frobenius-low}
use Rattle.sg_invar.proofs.numbers.frobenius.Goals as goal

pub loop-i-preserved : goal.loop-i-preserved
loop-i-preserved c =
    let table = c.args.table.now in
    let m = get_or table 0 0 in
    record {
      greatest = subst (IsGreatest table m (c.loop-i.i + 1)) (sym c.max-greatest.ensures)
          (greatest-more table m c.loop-i.i c.loop-i.greatest c.entry.result c.loop-i.invariant.greatest c.entry.ensures.entry);
      small = omega arith;
    }

pub returns-clause-frobenius : goal.returns-clause-frobenius
returns-clause-frobenius c =
    let table = c.args.table.now in
    let m = c.multiplicity-multiplicity.result in
    let g = c.loop-i.greatest in
    let first = c.multiplicity-multiplicity.ensures.first in
    let h : IsGreatest table m m g = greatest-all table m c.loop-i.i g first (omega arith) c.loop-i.invariant.greatest in
    let e : pos g -ℤ pos m ≡ to_z w64 (of_z w64 (to_z w64 g -ℤ to_z w64 m)) = omega (arith, ints) in
    subst (IsFrobenius table) e (frobenius-from_greatest table m g c.multiplicity-multiplicity.ensures.positive first h)

pub returns-clause-low : goal.returns-clause-low
returns-clause-low c =
    let table = c.args.table.now in
    let m = c.multiplicity-multiplicity.result in
    let g = c.loop-i.greatest in
    let first = c.multiplicity-multiplicity.ensures.first in
    let h : IsGreatest table m m g = greatest-all table m c.loop-i.i g first (omega arith) c.loop-i.invariant.greatest in
    let low = frobenius-low table m g c.multiplicity-multiplicity.ensures.positive first h in
    omega (arith, ints, low)
