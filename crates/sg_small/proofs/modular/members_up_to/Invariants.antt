use Rattle.std.proofs.Common.{◌<◌}
use Rattle.sg_defs.specs.Listings.{Lists}
use Rattle.sg_small.specs.Modular.{IsProportional}
use Rattle.sg_small.proofs.modular.members_up_to.Given as goal

abbrev pub invariant-loop-x : goal.invariant-loop-x
invariant-loop-x l = Lists (λ n. (n < l.x) × IsProportional l.a l.b l.c n) l.list.items
