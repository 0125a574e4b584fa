use Rattle.std.proofs.Common.{◌<◌, ◌≤◌, length}
use Rattle.std.specs.Prelude.{slice_index, EachIndex}
use Rattle.sg_factor.specs.declared.catenary.TheConstants.{REACHED}
use Rattle.sg_factor.proofs.ReachLemmas.{IsReached, open_count}
use Rattle.sg_factor.proofs.catenary.longest_step.Given as goal

abbrev pub invariant-reaching : goal.invariant-reaching
invariant-reaching l = record {
  reached : IsReached l.rows REACHED l.near l.longest;
  inside : l.next < length l.near;
  least : EachIndex l.near (λ j. slice_index l.near l.next ≤ slice_index l.near j);
}

abbrev pub decreases-reaching : goal.decreases-reaching
decreases-reaching l = open_count REACHED l.near
