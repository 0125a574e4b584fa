use Rattle.std.proofs.Common.{◌≡◌, ◌++◌, drop}
use Rattle.sg_value.specs.Known.{named}
use Rattle.sg_value.specs.Plain.{plain_of_all}
use Rattle.sg_meaning.specs.Statements.{texts_of}
use Rattle.sg_eval.proofs.machine.Machine.texts.Given as goal

-- with the texts that are left it is all
abbrev pub invariant-loop-value : goal.invariant-loop-value
invariant-loop-value l = l.text ++ texts_of (plain_of_all (named l.self.store.ids) (drop l.value-index l.values)) ≡ texts_of (plain_of_all (named l.self.store.ids) l.values)
