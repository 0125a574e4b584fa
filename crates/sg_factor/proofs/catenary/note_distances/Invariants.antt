use Rattle.sg_factor.specs.declared.catenary.TheConstants.{REACHED}
use Rattle.sg_factor.proofs.NoteLemmas.{AreNotedUpTo}
use Rattle.sg_factor.proofs.catenary.note_distances.Given as goal

abbrev pub invariant-loop-place : goal.invariant-loop-place
invariant-loop-place l = AreNotedUpTo l.rows REACHED l.from l.fn.near l.near l.place
