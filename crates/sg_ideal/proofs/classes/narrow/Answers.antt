use Rattle.std.proofs.Common.{arith}
use Rattle.sg_ideal.proofs.NarrowLemmas.{narrowed-classes, narrowed-same}
use Rattle.sg_ideal.proofs.classes.narrow.Goals as goal

pub returns-clause-classes : goal.returns-clause-classes
returns-clause-classes c =
    narrowed-classes c.args.entries.now c.args.other.now c.loop-class.entries c.args.by c.requires.entries c.requires.other c.requires.long c.loop-class.auto.entries
    (λ k l. c.loop-class.invariant.done k (omega arith))

pub returns-clause-same : goal.returns-clause-same
returns-clause-same c =
    narrowed-same c.args.entries.now c.args.other.now c.loop-class.entries c.args.by c.requires.entries c.requires.other c.requires.long c.loop-class.auto.entries
    (λ k l. c.loop-class.invariant.done k (omega arith))
