use Rattle.sg_defs.specs.Membership.{IsFactorization}
use Rattle.sg_factor.proofs.StepLemmas.{deltas-from_lengths}
use Rattle.sg_factor.proofs.laws.steps_of_all_lengths_are_deltas.Goals as goal

pub returns : goal.returns
returns c = λ G n. deltas-from_lengths (IsFactorization G n)
