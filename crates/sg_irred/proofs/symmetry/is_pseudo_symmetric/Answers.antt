use Rattle.std.proofs.Common.{◌+◌, ◌*◌, eq-eqb, eqb-true, arith}
use Rattle.sg_irred.proofs.TestLemmas.{pseudo_symmetric-by_conductor}
use Rattle.sg_irred.proofs.symmetry.is_pseudo_symmetric.Goals as goal

pub returns : goal.returns
returns c =
    let t = pseudo_symmetric-by_conductor c.args.table.now c.conductor.result c.genus.result c.conductor.ensures.conductor c.genus.ensures.decided c.genus.ensures.genus in
    let next = c.conductor.result + 1 in
    let double = 2 * c.genus.result in
    ((λ e. t.0 (let same = eqb-true next double e in omega (arith, same))), (λ s. eq-eqb next double (let same = t.1 s in omega (arith, same))))
