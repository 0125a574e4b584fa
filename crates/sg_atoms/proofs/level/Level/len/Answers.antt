use Rattle.std.proofs.Common.{subst}
use Rattle.sg_atoms.specs.Sets.{AreDifferent}
use Rattle.sg_atoms.proofs.SetLemmas.{different-from_keys}
use Rattle.sg_atoms.proofs.level.Level.len.Goals as goal

pub returns-clause-different : goal.returns-clause-different
returns-clause-different c = subst AreDifferent c.self.view_is (different-from_keys c.self.inside.vectors.keys c.self.invariant)
