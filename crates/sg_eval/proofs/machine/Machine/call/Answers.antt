use Rattle.std.proofs.Common.{refl}
use Rattle.sg_value.specs.Known.{named}
use Rattle.sg_value.specs.Plain.{plain_of_all}
use Rattle.sg_calls.specs.Rows.{row}
use Rattle.sg_eval.specs.Machine.{state_of}
use Rattle.sg_eval.specs.State.{vars_of, values_of}
use Rattle.sg_eval.proofs.Named.{known_in_later, values_later}
use Rattle.sg_meaning.specs.Queries.{calls}
use Rattle.sg_eval.proofs.Evaluating.{evaluates_reply, keeps_then}
use Rattle.sg_eval.proofs.Later.{are_known_later, vars_later, row_answered}
use Rattle.sg_eval.proofs.machine.Machine.call.Goals as goal

pub invariant_of-self : goal.invariant_of-self
invariant_of-self c =
    let kept = c.perform.ensures.keeps in
    let m = c.args.self.now in
    record { known = (known_in_later m.store.ids c.perform.new.store.ids m.variables.entries kept m.known.0, are_known_later m.store.ids c.perform.new.store.ids m.parameters.items kept m.known.1) }

pub returns : goal.returns
returns c =
    let kept = c.perform.ensures.keeps in
    let m = c.args.self.now in
    let a = m.store.ids in
    let b = c.perform.new.store.ids in
    let args = c.args.args.now in
    let command = c.args.command in
    evaluates_reply c.perform.result (state_of m) (record (state_of m) { names = b; attributes = c.perform.new.store.attributes; variables = values_of b m.variables.entries; parameters = vars_of b m.parameters.items }) (row m.budget command (plain_of_all (named a) args)) (λ names. calls command (plain_of_all names args))
    kept (values_later a b m.variables.entries kept m.known.0) refl (vars_later a b m.parameters.items kept m.known.1)
    (λ final later t asked h w. row_answered m.budget a final args command t asked (keeps_then a b final kept later) c.requires.known h w) c.perform.ensures.asks c.perform.ensures.reply
