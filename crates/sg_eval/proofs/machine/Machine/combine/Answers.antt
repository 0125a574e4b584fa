use Rattle.std.proofs.Common.{refl, sym, subst}
use Rattle.sg_value.specs.Known.{named}
use Rattle.sg_value.specs.Plain.{plain}
use Rattle.sg_calls.specs.Operations.{operation}
use Rattle.sg_eval.specs.Machine.{state_of}
use Rattle.sg_eval.specs.State.{vars_of, values_of}
use Rattle.sg_eval.proofs.Named.{known_in_later, values_later}
use Rattle.sg_meaning.specs.Queries.{combines, IsAnswer}
use Rattle.sg_eval.proofs.Evaluating.{evaluates_reply, keeps_then, plain_later}
use Rattle.sg_eval.proofs.Later.{are_known_later, vars_later}
use Rattle.sg_eval.proofs.machine.Machine.combine.Goals as goal

pub invariant_of-self : goal.invariant_of-self
invariant_of-self c =
    let kept = c.combine.ensures.keeps in
    let m = c.args.self.now in
    record { known = (known_in_later m.store.ids c.combine.new.store.ids m.variables.entries kept m.known.0, are_known_later m.store.ids c.combine.new.store.ids m.parameters.items kept m.known.1) }

pub returns : goal.returns
returns c =
    let kept = c.combine.ensures.keeps in
    let m = c.args.self.now in
    let a = m.store.ids in
    let b = c.combine.new.store.ids in
    let x = c.args.a.now in
    let y = c.args.b.now in
    let op = c.args.op in
    evaluates_reply c.combine.result (state_of m) (record (state_of m) { names = b; attributes = c.combine.new.store.attributes; variables = values_of b m.variables.entries; parameters = vars_of b m.parameters.items }) (operation m.budget op (plain (named a) x) (plain (named a) y)) (λ names. combines op (plain names x) (plain names y))
    kept (values_later a b m.variables.entries kept m.known.0) refl (vars_later a b m.parameters.items kept m.known.1)
    (λ final later t asked h w. subst (λ d. IsAnswer m.budget (combines op d (plain (named final) y)) t asked) (sym (plain_later a final x (keeps_then a b final kept later) c.requires.left))
    (subst (λ d. IsAnswer m.budget (combines op (plain (named a) x) d) t asked) (sym (plain_later a final y (keeps_then a b final kept later) c.requires.right)) (h, w))) c.combine.ensures.asks c.combine.ensures.reply
