use Rattle.std.proofs.Common.{refl}
use Rattle.sg_eval.specs.Machine.{state_of}
use Rattle.sg_eval.proofs.machine.Machine.grow.Goals as goal

pub invariant_of-self : goal.invariant_of-self
invariant_of-self c =
    let m = c.args.self.now in
    record { known = (c.grow.ensures.known m.store.ids m.known.0 c.requires.known, m.known.1) }

pub returns-clause-grows : goal.returns-clause-grows
returns-clause-grows c =
    let m = c.args.self.now in
    c.grow.ensures.grows (state_of m) c.requires.parameters refl m.known.0 c.requires.known
