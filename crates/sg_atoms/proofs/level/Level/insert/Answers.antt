use Rattle.std.proofs.Common.{subst}
use Rattle.sg_atoms.specs.Sets.{IsAdded}
use Rattle.sg_atoms.proofs.SetLemmas.{added-from_key}
use Rattle.sg_atoms.proofs.level.Level.insert.Goals as goal

pub returns-clause-ok : goal.returns-clause-ok
returns-clause-ok c =
    subst (λ l. IsAdded l c.args.vector c.insert_full.new.self.keys) c.self.view_is
    (added-from_key c.self.inside.vectors.keys c.insert_full.new.self.keys c.args.vector c.in_ok-insert_full.ensures.keys)
