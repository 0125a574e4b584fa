-- Chains and comparisons.
use Rattle.std.proofs.Common.{◌≡◌, get_or, rules, ◌+◌, ◌∷◌, Ok, Err, Some, None, true, false, length, drop, refl, ap, sym, ◌∙◌, subst}
use Rattle.std.specs.Prelude.{FitsSigned}
use Rattle.std.specs.Int.{w64}
use Rattle.std.proofs.lemmas.Int.{to_z-of_z}
use Rattle.sg_value.specs.declared.value.Value.TheVariants as value
use Rattle.sg_value.specs.Known.{named}
use Rattle.sg_value.specs.Data.{truth, EachThingOfAll}
use Rattle.sg_value.specs.Plain.{AllKnown, AllKnownIn, IsKnown, plain, plain_of_all}
use Rattle.sg_tree.specs.Tree.{call, variable, display, span, item, minus, negation, chain, compare}
use Rattle.sg_tree.specs.TreeView.{tree_of, trees_of, links_of}
use Rattle.sg_tree.proofs.ExpressionLevels.{view-Var, view-Display, view-Span, view-Item, view-Minus, view-Not, view-Chain, view-Compare}
use Rattle.sg_meaning.specs.Expressions.{folded, eval, eval_all, eval_places, eval_links, negated, turned, decided, ask, relation, eval_given, eval_folding, plain_alone}
use Rattle.sg_eval.specs.Linked.{placed, linked, ends_chain, compared_with}
use Rattle.sg_eval.specs.Machine.{state_of}
use Rattle.sg_eval.specs.Outcomes.{Evaluates, plain_in, known_in, plain_items, known_items}
use Rattle.sg_meaning.specs.Process.{gives, refuses, ◌>>=◌}
use Rattle.sg_meaning.specs.Queries.{lists, combines, indexes, spans, calls}
use Rattle.sg_eval.proofs.Evaluating.{evaluates_exit, evaluates_then, evaluates_on, evaluates_gives, evaluates_as, evaluates_memory, known_later, all_known_later, evaluates_bound, evaluates_bound_exit, evaluates_later, plain_later}
use Rattle.sg_eval.proofs.Later.{copy_plain}
use Rattle.std.proofs.lemmas.List.{drop_all}
use Rattle.sg_tree.specs.TreeView.{argument_of, arguments_of}
use Rattle.sg_tree.proofs.ExpressionLevels.{view-Plain, view-Arrow, view-Call}
use Rattle.sg_rows.specs.declared.fault.CallFault.TheVariants.{Script}
use Rattle.sg_rows.specs.declared.fault.Fault.TheVariants.{WrongType, WrongCount}
use Rattle.sg_eval.specs.Given.{plain_if, known_if, plain_where, known_where, eval_argument}
use Rattle.sg_eval.proofs.GivenSteps.{arguments_of-drop, after_given, given_none, given_over, known_with, known_where_later, count_with, given_then, given_exit, evaluates_refuses}
use Rattle.sg_eval.proofs.Steps.{trees_of-drop, links_of-drop, place_then, place_exit, value_then, value_exit, link_then, link_exit, link_as, unless_ended, front_none, front_over, after_front, all_known_more, link_rest, linked_as, linked_combines, rest_decides}
use Rattle.sg_eval.specs.Truths.{itself, no_semigroup}
use Rattle.sg_value.specs.Data.{none, item as item_of}
use Rattle.sg_rows.specs.Order.{Plain}
use Rattle.sg_eval.specs.Folded.{goes_on, fold_on, fold_rest, listed_if}
use Rattle.sg_tree.specs.declared.expr.Expr.{the_lemmas}
use Rattle.sg_tree.specs.declared.expr.Arg.{the_lemmas as argument_lemmas}
use Rattle.sg_eval.proofs.FoldSteps.{gathered_known, gathered_plain, fold_is}
use Rattle.sg_eval.proofs.FoldLoop.{wrong_count, fold_as, second_is, listed_if_bind, plain_of_all-drop, known_at, entry_exit, value_wrong, entry_then, entry_gathered}
use Rattle.sg_eval.proofs.eval.+eval.Goals as goal

pub compared-returns-in_err-b : goal.compared-returns-in_err-b
compared-returns-in_err-b t c =
    let s = state_of c.args.machine.now in
    evaluates_exit plain AllKnown plain AllKnown c.from_residual.result _ s (state_of c.eval.new.machine) (λ names. eval s.parameters (tree_of c.args.right.now)) (λ names b. ask (combines c.args.op (plain names c.args.left.now) b)) c.from_residual.ensures.1 c.in_err-b.ensures

pub compared-combine-requires-clause-left : goal.compared-combine-requires-clause-left
compared-combine-requires-clause-left t c = known_later c.args.machine.now.store.ids c.eval.new.machine.store.ids c.args.left.now c.in_ok-b.ensures.keeps c.requires

pub compared-returns : goal.compared-returns
compared-returns t c =
    let s = state_of c.args.machine.now in
    let s1 = state_of c.eval.new.machine in
    evaluates_then plain AllKnown plain AllKnown c.in_ok-b.b c.combine.result s s1 (state_of c.combine.new.self) (λ names. eval s.parameters (tree_of c.args.right.now)) (λ names b. ask (combines c.args.op (plain names c.args.left.now) b)) c.in_ok-b.ensures c.combine.ensures

pub chain-returns : goal.chain-returns
chain-returns t c =
    let ps = (state_of c.args.machine.now).parameters in
    let s = state_of c.loop-op.machine in
    let inv = c.loop-op.invariant in
    let v = c.loop-op.value in
    inv.reached (Ok v) s (subst (λ ls. Evaluates plain AllKnown (Ok v) s s (λ names. eval_links ps (plain names v) (links_of ls))) (sym (drop_all c.loop-op.op-index c.args.links.now c.loop-op-test.false))
    (evaluates_gives plain AllKnown v s (λ names. plain names v) inv.known (λ final later. refl)))

pub chain-returns-in_err-ends_chain : goal.chain-returns-in_err-ends_chain
chain-returns-in_err-ends_chain t c =
    let ps = (state_of c.args.machine.now).parameters in
    let s = state_of c.loop-op.machine in
    let inv = c.loop-op.invariant in
    let i = c.loop-op.op-index in
    let all = c.args.links.now in
    let l = c.loop-op-item.result in
    let op = l.0 in
    let tree = tree_of l.1 in
    let ls = links_of (drop (i + 1) all) in
    let v = c.loop-op.value in
    let r = c.from_residual.result in
    inv.reached r s (subst (λ xs. Evaluates plain AllKnown r s s (λ names. eval_links ps (plain names v) xs)) (sym (links_of-drop all i l c.loop-op-test.true c.loop-op-item.is))
    (link_as ps s op tree ls v r s (evaluates_exit itself no_semigroup plain AllKnown r _ s s (λ names. ends_chain op (plain names v)) (λ names. unless_ended ps op tree ls (plain names v)) c.from_residual.ensures.1 (c.in_err-ends_chain.ensures s))))

pub chain-returns-then-branch : goal.chain-returns-then-branch
chain-returns-then-branch t c =
    let ps = (state_of c.args.machine.now).parameters in
    let s = state_of c.loop-op.machine in
    let inv = c.loop-op.invariant in
    let i = c.loop-op.op-index in
    let all = c.args.links.now in
    let l = c.loop-op-item.result in
    let op = l.0 in
    let tree = tree_of l.1 in
    let ls = links_of (drop (i + 1) all) in
    let v = c.loop-op.value in
    inv.reached (Ok v) s (subst (λ xs. Evaluates plain AllKnown (Ok v) s s (λ names. eval_links ps (plain names v) xs)) (sym (links_of-drop all i l c.loop-op-test.true c.loop-op-item.is))
    (link_as ps s op tree ls v (Ok v) s (evaluates_then itself no_semigroup plain AllKnown true (Ok v) s s s (λ names. ends_chain op (plain names v)) (λ names. unless_ended ps op tree ls (plain names v))
    (subst (λ b. Evaluates itself no_semigroup (Ok b) s s (λ names. ends_chain op (plain names v))) c.if-branch.true (c.in_ok-ends_chain.ensures s))
    (evaluates_gives plain AllKnown v s (λ names. plain names v) inv.known (λ final later. refl)))))

pub chain-returns-in_err-value : goal.chain-returns-in_err-value
chain-returns-in_err-value t c =
    let ps = (state_of c.args.machine.now).parameters in
    let s = state_of c.loop-op.machine in
    let inv = c.loop-op.invariant in
    let i = c.loop-op.op-index in
    let all = c.args.links.now in
    let l = c.loop-op-item.result in
    let op = l.0 in
    let tree = tree_of l.1 in
    let ls = links_of (drop (i + 1) all) in
    let v = c.loop-op.value in
    let s1 = state_of c.linked.new.machine in
    let r = c.from_residual-in_err-value.result in
    inv.reached r s1 (subst (λ xs. Evaluates plain AllKnown r s s1 (λ names. eval_links ps (plain names v) xs)) (sym (links_of-drop all i l c.loop-op-test.true c.loop-op-item.is))
    (link_exit ps s op tree ls v s1 r _ inv.same c.from_residual-in_err-value.ensures.1
    (subst (λ b. Evaluates itself no_semigroup (Ok b) s s (λ names. ends_chain op (plain names v))) c.if-branch.false (c.in_ok-ends_chain.ensures s)) c.in_err-value.ensures))

pub chain-loop-op-preserved : goal.chain-loop-op-preserved
chain-loop-op-preserved t c =
    let ps = (state_of c.args.machine.now).parameters in
    let s = state_of c.loop-op.machine in
    let inv = c.loop-op.invariant in
    let i = c.loop-op.op-index in
    let all = c.args.links.now in
    let l = c.loop-op-item.result in
    let op = l.0 in
    let tree = tree_of l.1 in
    let ls = links_of (drop (i + 1) all) in
    let v = c.loop-op.value in
    let s1 = state_of c.linked.new.machine in
    let h = c.in_ok-value.ensures in
    record {
      known = h.is_known;
      same = h.parameters ∙ inv.same;
      reached = λ r s2 g. inv.reached r s2 (subst (λ xs. Evaluates plain AllKnown r s s2 (λ names. eval_links ps (plain names v) xs)) (sym (links_of-drop all i l c.loop-op-test.true c.loop-op-item.is))
          (link_then ps s op tree ls v s1 s2 c.in_ok-value.value r inv.same
          (subst (λ b. Evaluates itself no_semigroup (Ok b) s s (λ names. ends_chain op (plain names v))) c.if-branch.false (c.in_ok-ends_chain.ensures s)) h g));
    }

pub linked-returns-in-Some : goal.linked-returns-in-Some
linked-returns-in-Some t c =
    let s = state_of c.args.machine.now in
    let op = c.args.op in
    let tree = tree_of c.args.operand.now in
    let v = c.args.left.now in
    evaluates_as plain AllKnown c.compared.result s (state_of c.compared.new.machine) (λ names. compared_with s.parameters c.in-Some.operator (plain names v) tree) (λ names. linked s.parameters op tree (plain names v))
    (λ names. linked_combines s.parameters op c.in-Some.operator tree (plain names v) (sym c.in-Some.ensures)) c.compared.ensures

pub linked-returns-in_err-eval-in-None : goal.linked-returns-in_err-eval-in-None
linked-returns-in_err-eval-in-None t c =
    let s = state_of c.args.machine.now in
    let s1 = state_of c.eval.new.machine in
    let r = c.from_residual.result in
    let op = c.args.op in
    let tree = tree_of c.args.operand.now in
    let v = c.args.left.now in
    evaluates_as plain AllKnown r s s1 (λ names. eval s.parameters tree >>= link_rest op (plain names v)) (λ names. linked s.parameters op tree (plain names v)) (λ names. linked_as s.parameters op tree (plain names v))
    (evaluates_exit plain AllKnown plain AllKnown r _ s s1 (λ names. eval s.parameters tree) (λ names. link_rest op (plain names v)) c.from_residual.ensures.1 c.in_err-eval-in-None.ensures)

pub linked-returns-in_ok-eval-in-None : goal.linked-returns-in_ok-eval-in-None
linked-returns-in_ok-eval-in-None t c =
    let s = state_of c.args.machine.now in
    let s1 = state_of c.eval.new.machine in
    let r = c.truth_itself.result in
    let op = c.args.op in
    let tree = tree_of c.args.operand.now in
    let v = c.args.left.now in
    let w = c.in_ok-eval-in-None.field-0 in
    let h = c.in_ok-eval-in-None.ensures in
    evaluates_as plain AllKnown r s s1 (λ names. eval s.parameters tree >>= link_rest op (plain names v)) (λ names. linked s.parameters op tree (plain names v)) (λ names. linked_as s.parameters op tree (plain names v))
    (evaluates_then plain AllKnown plain AllKnown w r s s1 s1 (λ names. eval s.parameters tree) (λ names. link_rest op (plain names v)) h
    (evaluates_as plain AllKnown r s1 s1 (λ names. decided (plain names w) (λ b. gives (plain names w))) (λ names. link_rest op (plain names v) (plain names w))
    (λ names. rest_decides op (plain names v) (plain names w) (sym c.in-None.ensures)) (c.truth_itself.ensures s1 h.is_known)))
