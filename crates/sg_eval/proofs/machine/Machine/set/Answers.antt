use Rattle.sg_eval.proofs.Named.{known-after}
use Rattle.sg_eval.proofs.machine.Machine.set.Goals as goal

pub invariant_of-self : goal.invariant_of-self
invariant_of-self c =
    let m = c.args.self.now in
    record { known = (known-after m.store.ids c.set.result m.variables.entries c.set.new.variables.entries c.args.value c.set.ensures.known c.set.ensures.err m.known.0 c.requires.known, m.known.1) }
