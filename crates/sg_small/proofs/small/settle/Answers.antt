use Rattle.std.proofs.Common.{inl}
use Rattle.sg_small.proofs.small.settle.Goals as goal

pub returns-clause-settled : goal.returns-clause-settled
returns-clause-settled c = λ e. inl (c.try_sums.ensures.closed e)
