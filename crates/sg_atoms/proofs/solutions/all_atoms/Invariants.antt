use Rattle.std.proofs.Common.{◌+◌, length}
use Rattle.sg_atoms.proofs.ReachLemmas.{HasReached}
use Rattle.sg_atoms.proofs.solutions.all_atoms.Given as goal

abbrev pub invariant-levels : goal.invariant-levels
invariant-levels l = HasReached l.equations l.budget l.atoms l.level l.left

abbrev pub decreases-levels : goal.decreases-levels
decreases-levels l = length l.level + l.left
