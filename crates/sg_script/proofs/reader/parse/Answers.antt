use Rattle.sg_script.proofs.OutcomeLemmas.{tells-only, tells-good}
use Rattle.sg_script.proofs.reader.parse.Goals as goal

pub returns-clause-only : goal.returns-clause-only
returns-clause-only c = tells-only c.outcome_of.result c.outcome_of.ensures

pub returns-clause-well_formed : goal.returns-clause-well_formed
returns-clause-well_formed c = tells-good c.args.text.now c.outcome_of.result c.outcome_of.ensures
