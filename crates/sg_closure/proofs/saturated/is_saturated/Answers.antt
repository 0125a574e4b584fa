use Rattle.std.proofs.Common.{◌∙◌}
use Rattle.sg_defs.specs.Closures.{IsSaturated}
use Rattle.sg_closure.proofs.TestLemmas.{own-closure-tested}
use Rattle.sg_closure.proofs.saturated.is_saturated.Goals as goal

pub returns : goal.returns
returns c = own-closure-tested IsSaturated c.args.table.now c.in_ok-closure.closure c.generators-2.ensures.semigroup c.generators-2.ensures.minimal
    c.generators.ensures.minimal c.in_ok-closure.ensures c.as_slice.result.now c.as_slice-2.result.now c.eq.result
    (c.as_slice.ensures ∙ c.generators.ensures.same) (c.as_slice-2.ensures ∙ c.generators-2.ensures.same) c.eq.ensures
