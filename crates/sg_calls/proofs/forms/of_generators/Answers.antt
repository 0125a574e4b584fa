use Rattle.sg_value.specs.Known.{named}
use Rattle.sg_value.specs.Plain.{plain_of_all}
use Rattle.sg_rows.specs.Kinds.{as_semigroup, one}
use Rattle.sg_calls.proofs.Fitting.{fitted_told}
use Rattle.sg_calls.proofs.forms.of_generators.Goals as goal

pub returns-clause-reply : goal.returns-clause-reply
returns-clause-reply g c =
    fitted_told (one as_semigroup (plain_of_all (named c.args.ids.now) c.args.args.now)) _ (g.R.OfGenerators.says c.args.row) c.deliver.new.ids c.in-Some.generators.now c.tell-told.result c.deliver.result c.in-Some.ensures.0
    c.deliver.ensures.delivered c.tell-told.ensures
