use Rattle.sg_nonunique.specs.Elasticity.{IsElasticity}
use Rattle.sg_rows.proofs.Telling.{tells_quotient}
use Rattle.sg_rows_factorizations.proofs.Bounds.{elasticity-small}
use Rattle.sg_rows_factorizations.proofs.all_lengths.elasticity_told.Goals as goal

pub quotient-requires : goal.quotient-requires
quotient-requires c =
    let own = c.requires in
    let r = c.elasticity_of-found.result in
    elasticity-small c.args.generators.now own.semigroup own.minimal own.fit r.num r.den c.elasticity_of-found.ensures

pub returns : goal.returns
returns c =
    let G = c.args.generators.now in
    let r = c.elasticity_of-found.result in
    tells_quotient (IsElasticity G) r.num r.den c.quotient.result c.quotient.ensures.value c.quotient.ensures.sound c.elasticity_of-found.ensures
