use Rattle.sg_eval.proofs.AtOnce.{known_set}
use Rattle.sg_eval.proofs.machine.Machine.set_integer.Goals as goal

pub invariant_of-self : goal.invariant_of-self
invariant_of-self c =
    let m = c.args.self.now in
    record { known = (known_set m.store.ids c.set_integer.result m.variables.entries c.set_integer.new.variables.entries c.set_integer.ensures.known c.set_integer.ensures.err m.known.0, m.known.1) }
