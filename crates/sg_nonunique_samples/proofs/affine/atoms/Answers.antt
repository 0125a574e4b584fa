use Rattle.sg_nonunique_samples.proofs.EquationSamples.{atom, no_atom-solution, no_atom}
use Rattle.sg_nonunique_samples.proofs.affine.atoms.Goals as goal

pub returns-clause-atom : goal.returns-clause-atom
returns-clause-atom c = atom

pub returns-clause-solution : goal.returns-clause-solution
returns-clause-solution c = no_atom-solution

pub returns-clause-no_atom : goal.returns-clause-no_atom
returns-clause-no_atom c = no_atom
