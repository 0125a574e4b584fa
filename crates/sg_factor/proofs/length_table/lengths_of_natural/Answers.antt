use Rattle.std.proofs.Common.{IfOk, subst}
use Rattle.sg_defs.specs.Listings.{Lists}
use Rattle.sg_defs.specs.Membership.{IsFactorization}
use Rattle.sg_nonunique.specs.Factorizations.{IsLengthIn}
use Rattle.sg_factor.proofs.length_table.lengths_of_natural.Goals as goal

pub returns : goal.returns
returns c = subst (λ G. IfOk c.lengths_of.result (Lists (IsLengthIn (IsFactorization G c.args.n)))) c.in_ok-table.ensures.generators c.lengths_of.ensures
