use Rattle.std.proofs.Common.{◌-◌, Result}
use Rattle.sg_value.specs.Known.{named}
use Rattle.sg_value.specs.Plain.{AllKnown, plain}
use Rattle.sg_value.specs.declared.value.Value.{Value}
use Rattle.sg_rows.specs.declared.fault.CallFault.{CallFault}
use Rattle.sg_meaning.specs.Expressions.{negated}
use Rattle.sg_eval.specs.Outcomes.{Evaluates}
use Rattle.sg_eval.specs.State.{State}
use Rattle.sg_eval.proofs.signs.negated.Given as goal

-- whatever comes of the signs that are left comes of all
abbrev pub invariant-loop-i : goal.invariant-loop-i
invariant-loop-i l = (s : State) → AllKnown (named s.names) l.fn.v
    → AllKnown (named s.names) l.value × ((r : Result Value CallFault) → Evaluates plain AllKnown r s s (λ names. negated (l.fn.count - l.i) (plain names l.value)) → Evaluates plain AllKnown r s s (λ names. negated l.fn.count (plain names l.fn.v)))
