use Rattle.std.proofs.Common.{◌*◌, eq-eqb, eqb-true}
use Rattle.sg_irred.proofs.TestLemmas.{symmetric-by_conductor}
use Rattle.sg_irred.proofs.symmetry.is_symmetric.Goals as goal

pub returns : goal.returns
returns c =
    let t = symmetric-by_conductor c.args.table.now c.conductor.result c.genus.result c.conductor.ensures.conductor c.genus.ensures.decided c.genus.ensures.genus in
    ((λ e. t.0 (eqb-true (2 * c.genus.result) (c.conductor.result) e)), (λ s. eq-eqb (2 * c.genus.result) (c.conductor.result) (t.1 s)))
