use Rattle.std.proofs.Common.{sym, subst}
use Rattle.std.specs.List.Sorted.{IsStrictlyIncreasing}
use Rattle.sg_defs.specs.Listings.{Lists}
use Rattle.sg_defs.specs.Membership.{IsFactorization}
use Rattle.sg_nonunique.specs.Factorizations.{IsLengthIn}
use Rattle.sg_degrees.proofs.DeltaLemmas.{widest-from_lengths}
use Rattle.sg_degrees.proofs.deltas.widest_of.Goals as goal

pub widest_step-requires : goal.widest_step-requires
widest_step-requires c = subst IsStrictlyIncreasing (sym c.as_slice.ensures) c.in_ok-lengths.ensures.ascending

pub returns : goal.returns
returns c =
    let lists = subst (Lists (IsLengthIn (IsFactorization c.args.table.now.generators c.args.n))) (sym c.as_slice.ensures) c.in_ok-lengths.ensures in
    widest-from_lengths (IsFactorization c.args.table.now.generators c.args.n) c.as_slice.result.now c.widest_step.result lists c.widest_step.ensures.bound c.widest_step.ensures.reached
