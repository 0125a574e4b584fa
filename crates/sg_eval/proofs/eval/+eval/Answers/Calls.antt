-- Calls and their arguments.
use Rattle.std.proofs.Common.{◌≡◌, get_or, rules, ◌+◌, ◌∷◌, Ok, Err, Some, None, true, false, length, drop, refl, ap, sym, ◌∙◌, subst}
use Rattle.std.specs.Prelude.{FitsSigned}
use Rattle.std.specs.Int.{w64}
use Rattle.std.proofs.lemmas.Int.{to_z-of_z}
use Rattle.sg_value.specs.declared.value.Value.TheVariants as value
use Rattle.sg_value.specs.Known.{named}
use Rattle.sg_value.specs.Data.{truth, EachThingOfAll}
use Rattle.sg_value.specs.Plain.{AllKnown, AllKnownIn, IsKnown, plain, plain_of_all}
use Rattle.sg_tree.specs.Tree.{call, variable, display, span, item, minus, negation, chain, compare}
use Rattle.sg_tree.specs.TreeView.{tree_of, trees_of, links_of}
use Rattle.sg_tree.proofs.ExpressionLevels.{view-Var, view-Display, view-Span, view-Item, view-Minus, view-Not, view-Chain, view-Compare}
use Rattle.sg_meaning.specs.Expressions.{folded, eval, eval_all, eval_places, eval_links, negated, turned, decided, ask, relation, eval_given, eval_folding, plain_alone, answered, argument_count}
use Rattle.sg_eval.specs.Linked.{placed, linked, ends_chain, compared_with}
use Rattle.sg_eval.specs.Machine.{state_of}
use Rattle.sg_eval.specs.Outcomes.{Evaluates, plain_in, known_in, plain_items, known_items}
use Rattle.sg_meaning.specs.Process.{gives, refuses, ◌>>=◌}
use Rattle.sg_meaning.specs.Queries.{lists, combines, indexes, spans, calls}
use Rattle.sg_eval.proofs.Evaluating.{evaluates_exit, evaluates_then, evaluates_on, evaluates_gives, evaluates_as, evaluates_memory, known_later, all_known_later, evaluates_bound, evaluates_bound_exit, evaluates_later, plain_later}
use Rattle.sg_eval.proofs.Later.{copy_plain}
use Rattle.std.proofs.lemmas.List.{drop_all}
use Rattle.sg_tree.specs.TreeView.{argument_of, arguments_of}
use Rattle.sg_tree.proofs.ExpressionLevels.{view-Plain, view-Arrow, view-Call}
use Rattle.sg_rows.specs.declared.fault.CallFault.TheVariants.{Script}
use Rattle.sg_rows.specs.declared.fault.Fault.TheVariants.{WrongType, WrongCount, UnknownName}
use Rattle.sg_calls.specs.Commands.{word_named}
use Rattle.sg_calls.specs.declared.command.Word.TheVariants as word
use Rattle.sg_eval.specs.Given.{plain_if, known_if, plain_where, known_where, eval_argument}
use Rattle.sg_eval.proofs.GivenSteps.{arguments_of-drop, after_given, given_none, given_over, known_with, known_where_later, count_with, given_then, given_exit, call_word, count_right, count_wrong, evaluates_refuses}
use Rattle.sg_eval.proofs.Steps.{trees_of-drop, links_of-drop, place_then, place_exit, value_then, value_exit, link_then, link_exit, link_as, unless_ended, front_none, front_over, after_front, all_known_more, link_rest, linked_as, linked_combines, rest_decides}
use Rattle.sg_eval.specs.Truths.{itself, no_semigroup}
use Rattle.sg_value.specs.Data.{none, item as item_of}
use Rattle.sg_rows.specs.Order.{Plain}
use Rattle.sg_eval.specs.Folded.{goes_on, fold_on, fold_rest, listed_if}
use Rattle.sg_tree.specs.declared.expr.Expr.{the_lemmas}
use Rattle.sg_tree.specs.declared.expr.Arg.{the_lemmas as argument_lemmas}
use Rattle.sg_eval.proofs.FoldSteps.{gathered_known, gathered_plain, fold_is}
use Rattle.sg_eval.proofs.FoldLoop.{wrong_count, fold_as, second_is, listed_if_bind, plain_of_all-drop, known_at, entry_exit, value_wrong, entry_then, entry_gathered}
use Rattle.sg_eval.proofs.eval.+eval.Goals as goal

pub argument-returns-in_err-eval-in-Plain : goal.argument-returns-in_err-eval-in-Plain
argument-returns-in_err-eval-in-Plain t c =
    let s = state_of c.args.machine.now in
    let s1 = state_of c.eval.new.machine in
    let r = c.from_residual.result in
    let seen = ap argument_of c.in-Plain.is ∙ view-Plain c.in-Plain.e in
    subst (λ a. Evaluates plain_if known_if r s s1 (λ names. eval_argument s.parameters a)) (sym seen)
    (evaluates_exit plain AllKnown plain_if known_if r _ s s1 (λ names. eval s.parameters (tree_of c.in-Plain.e)) (λ names d. gives (Some d)) c.from_residual.ensures.1 c.in_err-eval-in-Plain.ensures)

pub argument-returns-in_ok-eval-in-Plain : goal.argument-returns-in_ok-eval-in-Plain
argument-returns-in_ok-eval-in-Plain t c =
    let s = state_of c.args.machine.now in
    let s1 = state_of c.eval.new.machine in
    let v = c.in_ok-eval-in-Plain.field-0 in
    let h = c.in_ok-eval-in-Plain.ensures in
    let seen = ap argument_of c.in-Plain.is ∙ view-Plain c.in-Plain.e in
    subst (λ a. Evaluates plain_if known_if (Ok (Some v)) s s1 (λ names. eval_argument s.parameters a)) (sym seen)
    (evaluates_then plain AllKnown plain_if known_if v (Ok (Some v)) s s1 s1 (λ names. eval s.parameters (tree_of c.in-Plain.e)) (λ names d. gives (Some d)) h
    (evaluates_gives plain_if known_if (Some v) s1 (λ names. Some (plain names v)) h.is_known (λ final later. refl)))

pub call-returns-in-Some-Command : goal.call-returns-in-Some-Command
call-returns-in-Some-Command t c =
    let s = state_of c.args.machine.now in
    let args = arguments_of c.args.args.now in
    evaluates_as plain AllKnown c.command_call.result s (state_of c.command_call.new.machine) (λ names. answered c.in-Some-Command.command (argument_count args) (eval_given s.parameters args)) (λ names. eval s.parameters (call c.args.name.now args))
    (λ names. call_word s.parameters c.args.name.now c.args.args.now (Some (word.Command c.in-Some-Command.command)) (subst (λ w. Some w ≡ word_named c.args.name.now) c.in-Some-Command.field-0-is c.in-Some-Command.ensures)) c.command_call.ensures

pub call-returns-in-Some-Arrow : goal.call-returns-in-Some-Arrow
call-returns-in-Some-Arrow t c =
    let s = state_of c.args.machine.now in
    let args = arguments_of c.args.args.now in
    evaluates_as plain AllKnown c.fold_call.result s (state_of c.fold_call.new.machine) (λ names. eval_folding s.parameters args c.in-Some-Arrow.fold) (λ names. eval s.parameters (call c.args.name.now args))
    (λ names. call_word s.parameters c.args.name.now c.args.args.now (Some (word.Arrow c.in-Some-Arrow.fold)) (subst (λ w. Some w ≡ word_named c.args.name.now) c.in-Some-Arrow.field-0-is c.in-Some-Arrow.ensures)) c.fold_call.ensures

pub call-returns-in-Some-Print : goal.call-returns-in-Some-Print
call-returns-in-Some-Print t c =
    let s = state_of c.args.machine.now in
    evaluates_as plain AllKnown (Err (Script UnknownName)) s s (λ names. refuses UnknownName) (λ names. eval s.parameters (call c.args.name.now (arguments_of c.args.args.now)))
    (λ names. call_word s.parameters c.args.name.now c.args.args.now (Some word.Print) (subst (λ w. Some w ≡ word_named c.args.name.now) c.in-Some-Print.field-0-is c.in-Some-Print.ensures)) (evaluates_refuses plain AllKnown UnknownName s)

pub call-returns-in-None : goal.call-returns-in-None
call-returns-in-None t c =
    let s = state_of c.args.machine.now in
    evaluates_as plain AllKnown (Err (Script UnknownName)) s s (λ names. refuses UnknownName) (λ names. eval s.parameters (call c.args.name.now (arguments_of c.args.args.now)))
    (λ names. call_word s.parameters c.args.name.now c.args.args.now None c.in-None.ensures) (evaluates_refuses plain AllKnown UnknownName s)

pub command_call-returns-then-not-takes : goal.command_call-returns-then-not-takes
command_call-returns-then-not-takes t c =
    let s = state_of c.args.machine.now in
    let args = c.args.args.now in
    evaluates_as plain AllKnown (Err (Script WrongCount)) s s (λ names. refuses WrongCount) (λ names. answered c.args.command (argument_count (arguments_of args)) (eval_given s.parameters (arguments_of args)))
    (λ names. count_wrong s.parameters c.args.command args (sym c.takes.ensures ∙ c.if-not-takes.true)) (evaluates_refuses plain AllKnown WrongCount s)

pub command_call-returns-in_err-values : goal.command_call-returns-in_err-values
command_call-returns-in_err-values t c =
    let s = state_of c.args.machine.now in
    let s1 = state_of c.given.new.machine in
    let r = c.from_residual.result in
    let command = c.args.command in
    let args = c.args.args.now in
    evaluates_as plain AllKnown r s s1 (λ names. eval_given s.parameters (arguments_of args) >>= (λ values. plain_alone values (λ ds. ask (calls command ds)))) (λ names. answered command (argument_count (arguments_of args)) (eval_given s.parameters (arguments_of args)))
    (λ names. count_right s.parameters command args (sym c.takes.ensures ∙ c.if-not-takes.false))
    (evaluates_exit plain_where known_where plain AllKnown r _ s s1 (λ names. eval_given s.parameters (arguments_of args)) (λ names values. plain_alone values (λ ds. ask (calls command ds))) c.from_residual.ensures.1 c.in_err-values.ensures.value)

pub given-loop-arg-init : goal.given-loop-arg-init
given-loop-arg-init t c =
    let s = state_of c.args.machine.now in
    let args = arguments_of c.args.args.now in
    record {
      known = subst (AllKnownIn (named s.names)) (sym c.new.ensures.items) tt;
      same = refl;
      count = ap length c.new.ensures.items;
      reached = λ r s2 h. evaluates_as plain_where known_where r s s2 (λ names. after_given s.parameters args (plain_where names (Some c.new.result))) (λ names. eval_given s.parameters args)
          (λ names. given_none s.parameters args names c.new.result c.new.ensures.items) h;
    }

pub given-returns-in_err-found-clause-value : goal.given-returns-in_err-found-clause-value
given-returns-in_err-found-clause-value t c =
    let ps = (state_of c.args.machine.now).parameters in
    let s = state_of c.loop-arg.machine in
    let s1 = state_of c.argument.new.machine in
    let inv = c.loop-arg.invariant in
    let i = c.loop-arg.arg-index in
    let all = c.args.args.now in
    let a = c.arg-item.result in
    let o = c.loop-arg.values in
    let r = c.from_residual.result in
    inv.reached r s1 (subst (λ xs. Evaluates plain_where known_where r s s1 (λ names. after_given ps xs (plain_where names o))) (sym (arguments_of-drop all i a c.loop-arg-test.true c.arg-item.is))
    (given_exit ps s s1 (argument_of a) (arguments_of (drop (i + 1) all)) o inv.same r _ c.from_residual.ensures.1 c.in_err-found.ensures))

pub given-returns-in_err-values-clause-value : goal.given-returns-in_err-values-clause-value
given-returns-in_err-values-clause-value t c =
    let s = state_of c.loop-arg.machine in
    let s1 = state_of c.argument.new.machine in
    let h = c.in_ok-found.ensures in
    let r = c.from_residual-in_err-values.result in
    c.loop-arg.invariant.reached r s1 (evaluates_memory plain_where known_where r _ s s1 _ h.keeps h.variables h.budget c.from_residual-in_err-values.ensures.1)

pub given-loop-arg-preserved : goal.given-loop-arg-preserved
given-loop-arg-preserved t c =
    let ps = (state_of c.args.machine.now).parameters in
    let s = state_of c.loop-arg.machine in
    let s1 = state_of c.argument.new.machine in
    let inv = c.loop-arg.invariant in
    let i = c.loop-arg.arg-index in
    let all = c.args.args.now in
    let a = c.arg-item.result in
    let o = c.loop-arg.values in
    let f = c.in_ok-found.found in
    let p = c.in_ok-values.values in
    let h = c.in_ok-found.ensures in
    let is = c.in_ok-values.ensures in
    record {
      known = known_with (named s1.names) o f p is (known_where_later s.names s1.names o h.keeps inv.known) h.is_known;
      same = h.parameters ∙ inv.same;
      count = count_with o f p i is inv.count;
      reached = λ r s2 g. inv.reached r s2 (subst (λ xs. Evaluates plain_where known_where r s s2 (λ names. after_given ps xs (plain_where names o))) (sym (arguments_of-drop all i a c.loop-arg-test.true c.arg-item.is))
          (given_then ps s s1 (argument_of a) (arguments_of (drop (i + 1) all)) o inv.same f p r s2 is h g));
    }

pub given-returns-clause-value : goal.given-returns-clause-value
given-returns-clause-value t c =
    let ps = (state_of c.args.machine.now).parameters in
    let s = state_of c.loop-arg.machine in
    let inv = c.loop-arg.invariant in
    let o = c.loop-arg.values in
    inv.reached (Ok o) s (subst (λ xs. Evaluates plain_where known_where (Ok o) s s (λ names. after_given ps (arguments_of xs) (plain_where names o))) (sym (drop_all c.loop-arg.arg-index c.args.args.now c.loop-arg-test.false))
    (evaluates_as plain_where known_where (Ok o) s s (λ names. gives (plain_where names o)) _ (λ names. given_over ps (plain_where names o))
    (evaluates_gives plain_where known_where o s (λ names. plain_where names o) inv.known (λ final later. refl))))

pub command_call-returns-in-Some : goal.command_call-returns-in-Some
command_call-returns-in-Some t c =
    let s = state_of c.args.machine.now in
    let s1 = state_of c.given.new.machine in
    let s2 = state_of c.call.new.self in
    let r = c.call.result in
    let command = c.args.command in
    let args = c.args.args.now in
    let vs = c.in-Some.values in
    let h = subst (λ o. Evaluates plain_where known_where (Ok o) s s1 (λ names. eval_given s.parameters (arguments_of args))) c.in-Some.is c.in_ok-values.ensures.value in
    evaluates_as plain AllKnown r s s2 (λ names. eval_given s.parameters (arguments_of args) >>= (λ values. plain_alone values (λ ds. ask (calls command ds)))) (λ names. answered command (argument_count (arguments_of args)) (eval_given s.parameters (arguments_of args)))
    (λ names. count_right s.parameters command args (sym c.takes.ensures ∙ c.if-not-takes.false))
    (evaluates_then plain_where known_where plain AllKnown (Some vs) r s s1 s2 (λ names. eval_given s.parameters (arguments_of args)) (λ names values. plain_alone values (λ ds. ask (calls command ds))) h
    (subst (λ xs. Evaluates plain AllKnown r s1 s2 (λ names. ask (calls command (plain_of_all names xs)))) c.deref.ensures.value c.call.ensures))

pub command_call-returns-in-None : goal.command_call-returns-in-None
command_call-returns-in-None t c =
    let s = state_of c.args.machine.now in
    let s1 = state_of c.given.new.machine in
    let command = c.args.command in
    let args = c.args.args.now in
    let r = Err (Script WrongType) in
    let h = subst (λ o. Evaluates plain_where known_where (Ok o) s s1 (λ names. eval_given s.parameters (arguments_of args))) c.in-None.is c.in_ok-values.ensures.value in
    evaluates_as plain AllKnown r s s1 (λ names. eval_given s.parameters (arguments_of args) >>= (λ values. plain_alone values (λ ds. ask (calls command ds)))) (λ names. answered command (argument_count (arguments_of args)) (eval_given s.parameters (arguments_of args)))
    (λ names. count_right s.parameters command args (sym c.takes.ensures ∙ c.if-not-takes.false))
    (evaluates_then plain_where known_where plain AllKnown None r s s1 s1 (λ names. eval_given s.parameters (arguments_of args)) (λ names values. plain_alone values (λ ds. ask (calls command ds))) h (evaluates_refuses plain AllKnown WrongType s1))
