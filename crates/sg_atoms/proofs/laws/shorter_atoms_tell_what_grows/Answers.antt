use Rattle.std.proofs.Common.{◌+◌, sum, arith}
use Rattle.sg_atoms.proofs.GrownLemmas.{length-grown}
use Rattle.sg_atoms.proofs.AtomLemmas.{clear-grows, grows-clear, grows-raises}
use Rattle.sg_atoms.proofs.laws.shorter_atoms_tell_what_grows.Goals as goal

pub returns : goal.returns
returns c r columns p q g =
    let e = length-grown r columns p g in (
      (λ s. ((s.place, grows-raises r columns p q s), grows-clear r columns p q (sum p + 1) e (omega arith) s)),
      (λ h. clear-grows r columns p q h.0.0 (sum p + 1) e (omega arith) h.0.1 h.1),
    )
