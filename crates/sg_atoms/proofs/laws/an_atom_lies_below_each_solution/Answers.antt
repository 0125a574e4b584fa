use Rattle.sg_atoms.proofs.AtomLemmas.{atom-below}
use Rattle.sg_atoms.proofs.laws.an_atom_lies_below_each_solution.Goals as goal

pub returns : goal.returns
returns c = atom-below
