use Rattle.sg_atoms.proofs.GrownLemmas.{atom-grown, grown-atom}
use Rattle.sg_atoms.proofs.laws.atoms_are_the_grown_solutions.Goals as goal

pub returns : goal.returns
returns c = record {
  grown = λ r columns p h a. atom-grown r columns h p a;
  atoms = λ r columns p g h. grown-atom r columns p g h;
}
