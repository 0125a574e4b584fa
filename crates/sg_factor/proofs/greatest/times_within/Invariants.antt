use Rattle.std.proofs.Common.{◌≡◌, ◌+◌, ◌*◌}
use Rattle.sg_defs.specs.Membership.{IsMember}
use Rattle.sg_factor.proofs.greatest.times_within.Given as goal

abbrev pub invariant-loop-rest : goal.invariant-loop-rest
invariant-loop-rest l = record {
  split : l.rest + l.times * l.generator ≡ l.n;
  member : IsMember l.t l.rest;
}

abbrev pub decreases-loop-rest : goal.decreases-loop-rest
decreases-loop-rest l = l.rest
