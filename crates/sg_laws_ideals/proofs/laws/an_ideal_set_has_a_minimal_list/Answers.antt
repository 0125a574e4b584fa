use Rattle.std.specs.Prelude.{IsTrue}
use Rattle.sg_laws_ideals.proofs.IdealsExist.{ideal-exists}
use Rattle.sg_laws_ideals.proofs.laws.an_ideal_set_has_a_minimal_list.Goals as goal

pub returns : goal.returns
returns c G p num h = ideal-exists G num (λ x. IsTrue (p x)) h
