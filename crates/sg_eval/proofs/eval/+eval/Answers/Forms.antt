-- Expressions of any form, and signs before operands.
use Rattle.std.proofs.Common.{◌≡◌, get_or, rules, ◌+◌, ◌∷◌, Ok, Err, Some, None, true, false, length, drop, refl, ap, sym, ◌∙◌, subst}
use Rattle.std.specs.Prelude.{FitsSigned}
use Rattle.std.specs.Int.{w64}
use Rattle.std.proofs.lemmas.Int.{to_z-of_z}
use Rattle.sg_value.specs.declared.value.Value.TheVariants as value
use Rattle.sg_value.specs.Known.{named}
use Rattle.sg_value.specs.Data.{truth, EachThingOfAll}
use Rattle.sg_value.specs.Plain.{AllKnown, AllKnownIn, IsKnown, plain, plain_of_all}
use Rattle.sg_tree.specs.Tree.{call, variable, display, span, item, minus, negation, chain, compare}
use Rattle.sg_tree.specs.TreeView.{tree_of, trees_of, links_of}
use Rattle.sg_tree.proofs.ExpressionLevels.{view-Var, view-Display, view-Span, view-Item, view-Minus, view-Not, view-Chain, view-Compare}
use Rattle.sg_meaning.specs.Expressions.{folded, eval, eval_all, eval_places, eval_links, negated, turned, decided, ask, relation, eval_given, eval_folding, plain_alone}
use Rattle.sg_eval.specs.Linked.{placed, linked, ends_chain, compared_with}
use Rattle.sg_eval.specs.Machine.{state_of}
use Rattle.sg_eval.specs.Outcomes.{Evaluates, plain_in, known_in, plain_items, known_items}
use Rattle.sg_meaning.specs.Process.{gives, refuses, ◌>>=◌}
use Rattle.sg_meaning.specs.Queries.{lists, combines, indexes, spans, calls}
use Rattle.sg_eval.proofs.Evaluating.{evaluates_exit, evaluates_then, evaluates_on, evaluates_gives, evaluates_as, evaluates_memory, known_later, all_known_later, evaluates_bound, evaluates_bound_exit, evaluates_later, plain_later}
use Rattle.sg_eval.proofs.Later.{copy_plain}
use Rattle.std.proofs.lemmas.List.{drop_all}
use Rattle.sg_tree.specs.TreeView.{argument_of, arguments_of}
use Rattle.sg_tree.proofs.ExpressionLevels.{view-Plain, view-Arrow, view-Call}
use Rattle.sg_rows.specs.declared.fault.CallFault.TheVariants.{Script}
use Rattle.sg_rows.specs.declared.fault.Fault.TheVariants.{WrongType, WrongCount}
use Rattle.sg_eval.specs.Given.{plain_if, known_if, plain_where, known_where, eval_argument}
use Rattle.sg_eval.proofs.GivenSteps.{arguments_of-drop, after_given, given_none, given_over, known_with, known_where_later, count_with, given_then, given_exit, evaluates_refuses}
use Rattle.sg_eval.proofs.Steps.{trees_of-drop, links_of-drop, place_then, place_exit, value_then, value_exit, link_then, link_exit, link_as, unless_ended, front_none, front_over, after_front, all_known_more, link_rest, linked_as, linked_combines, rest_decides}
use Rattle.sg_eval.specs.Truths.{itself, no_semigroup}
use Rattle.sg_value.specs.Data.{none, item as item_of}
use Rattle.sg_rows.specs.Order.{Plain}
use Rattle.sg_eval.specs.Folded.{goes_on, fold_on, fold_rest, listed_if}
use Rattle.sg_tree.specs.declared.expr.Expr.{the_lemmas}
use Rattle.sg_tree.specs.declared.expr.Arg.{the_lemmas as argument_lemmas}
use Rattle.sg_eval.proofs.FoldSteps.{gathered_known, gathered_plain, fold_is}
use Rattle.sg_eval.proofs.FoldLoop.{wrong_count, fold_as, second_is, listed_if_bind, plain_of_all-drop, known_at, entry_exit, value_wrong, entry_then, entry_gathered}
use Rattle.sg_eval.proofs.eval.+eval.Goals as goal

pub eval_any-returns-in-Var : goal.eval_any-returns-in-Var
eval_any-returns-in-Var t c =
    let s = state_of c.args.machine.now in
    let seen = ap tree_of c.in-Var.is ∙ (view-Var c.in-Var.name ∙ ap variable (sym c.as_slice.ensures)) in
    subst (λ x. Evaluates plain AllKnown c.named.result s s (λ names. eval s.parameters x)) (sym seen) c.named.ensures

pub eval_any-returns-in-Display : goal.eval_any-returns-in-Display
eval_any-returns-in-Display t c =
    let s = state_of c.args.machine.now in
    let seen = ap tree_of c.in-Display.is ∙ (view-Display c.in-Display.entries ∙ ap (λ es. display (trees_of es)) (sym c.deref-in-Display.ensures.value)) in
    subst (λ x. Evaluates plain AllKnown c.display.result s (state_of c.display.new.machine) (λ names. eval s.parameters x)) (sym seen) c.display.ensures

pub eval_any-returns-in-Call : goal.eval_any-returns-in-Call
eval_any-returns-in-Call t c =
    let s = state_of c.args.machine.now in
    let s1 = state_of c.call.new.machine in
    let seen = ap tree_of c.in-Call.is ∙ (view-Call c.in-Call.name c.in-Call.args
    ∙ (ap (λ xs. call c.in-Call.name (arguments_of xs)) (sym c.deref.ensures.value) ∙ ap (λ x. call x (arguments_of c.deref.result.now)) (sym c.as_slice-in-Call.ensures))) in
    subst (λ x. Evaluates plain AllKnown c.call.result s s1 (λ names. eval s.parameters x)) (sym seen) c.call.ensures

pub minus_of-returns-in_err-eval : goal.minus_of-returns-in_err-eval
minus_of-returns-in_err-eval t c =
    let s = state_of c.args.machine.now in
    evaluates_exit plain AllKnown plain AllKnown c.from_residual.result _ s (state_of c.eval.new.machine) (λ names. eval s.parameters (tree_of c.args.operand.now)) (λ names. negated c.args.count) c.from_residual.ensures.1 c.in_err-eval.ensures

pub minus_of-returns : goal.minus_of-returns
minus_of-returns t c =
    let s = state_of c.args.machine.now in
    let s1 = state_of c.eval.new.machine in
    let e = c.in_ok-eval.ensures in
    evaluates_then plain AllKnown plain AllKnown c.in_ok-eval.field-0 c.negated.result s s1 s1 (λ names. eval s.parameters (tree_of c.args.operand.now)) (λ names. negated c.args.count) e (c.negated.ensures s1 e.is_known)

pub not_of-returns-in_err-eval : goal.not_of-returns-in_err-eval
not_of-returns-in_err-eval t c =
    let s = state_of c.args.machine.now in
    evaluates_exit plain AllKnown plain AllKnown c.from_residual.result _ s (state_of c.eval.new.machine) (λ names. eval s.parameters (tree_of c.args.operand.now)) (λ names d. decided d (λ b. gives (truth (turned c.args.count b)))) c.from_residual.ensures.1 c.in_err-eval.ensures

pub not_of-returns : goal.not_of-returns
not_of-returns t c =
    let s = state_of c.args.machine.now in
    let s1 = state_of c.eval.new.machine in
    evaluates_then plain AllKnown plain AllKnown c.in_ok-eval.field-0 c.turned.result s s1 s1 (λ names. eval s.parameters (tree_of c.args.operand.now)) (λ names d. decided d (λ b. gives (truth (turned c.args.count b)))) c.in_ok-eval.ensures (c.turned.ensures s1)

pub eval_any-returns-in-Minus : goal.eval_any-returns-in-Minus
eval_any-returns-in-Minus t c =
    let s = state_of c.args.machine.now in
    let n = c.in-Minus.count in
    let seen = ap tree_of c.in-Minus.is ∙ (view-Minus n c.in-Minus.operand ∙ ap (λ x. minus n (tree_of x)) (sym c.deref-in-Minus.ensures)) in
    subst (λ x. Evaluates plain AllKnown c.minus_of.result s (state_of c.minus_of.new.machine) (λ names. eval s.parameters x)) (sym seen) c.minus_of.ensures

pub eval_any-returns-in-Not : goal.eval_any-returns-in-Not
eval_any-returns-in-Not t c =
    let s = state_of c.args.machine.now in
    let n = c.in-Not.count in
    let seen = ap tree_of c.in-Not.is ∙ (view-Not n c.in-Not.operand ∙ ap (λ x. negation n (tree_of x)) (sym c.deref-in-Not.ensures)) in
    subst (λ x. Evaluates plain AllKnown c.not_of.result s (state_of c.not_of.new.machine) (λ names. eval s.parameters x)) (sym seen) c.not_of.ensures

pub eval_any-returns-in_err-value-in-Item : goal.eval_any-returns-in_err-value-in-Item
eval_any-returns-in_err-value-in-Item t c =
    let s = state_of c.args.machine.now in
    let ps = s.parameters in
    let list = tree_of c.deref-in-Item.result.now in
    let places = trees_of c.in-Item.places.items in
    let r = c.from_residual-in_err-value-in-Item.result in
    let seen = ap tree_of c.in-Item.is ∙ (view-Item c.in-Item.list c.in-Item.places ∙ ap (λ x. item (tree_of x) places) (sym c.deref-in-Item.ensures)) in
    subst (λ x. Evaluates plain AllKnown r s (state_of c.eval_any.new.machine) (λ names. eval ps x)) (sym seen)
    (evaluates_exit plain AllKnown plain AllKnown r _ s (state_of c.eval_any.new.machine) (λ names. eval ps list) (λ names d. eval_places ps d places) c.from_residual-in_err-value-in-Item.ensures.1 c.in_err-value-in-Item.ensures)

pub eval_any-returns-in_ok-value-in-Item : goal.eval_any-returns-in_ok-value-in-Item
eval_any-returns-in_ok-value-in-Item t c =
    let s = state_of c.args.machine.now in
    let s1 = state_of c.eval_any.new.machine in
    let s2 = state_of c.item.new.machine in
    let ps = s.parameters in
    let list = tree_of c.deref-in-Item.result.now in
    let places = trees_of c.deref-in-Item-2.result.now in
    let r = c.item.result in
    let seen = ap tree_of c.in-Item.is ∙ (view-Item c.in-Item.list c.in-Item.places
    ∙ (ap (λ x. item (tree_of x) (trees_of c.in-Item.places.items)) (sym c.deref-in-Item.ensures) ∙ ap (λ xs. item list (trees_of xs)) (sym c.deref-in-Item-2.ensures.value))) in
    subst (λ x. Evaluates plain AllKnown r s s2 (λ names. eval ps x)) (sym seen)
    (evaluates_on plain AllKnown plain AllKnown c.in_ok-value-in-Item.value r s s1 s2 (λ names. eval ps list) (λ qs names d. eval_places qs d places) c.in_ok-value-in-Item.ensures c.item.ensures)

pub eval_any-returns-in_err-value-in-Chain : goal.eval_any-returns-in_err-value-in-Chain
eval_any-returns-in_err-value-in-Chain t c =
    let s = state_of c.args.machine.now in
    let s1 = state_of c.eval-in-Chain.new.machine in
    let ps = s.parameters in
    let first = tree_of c.deref-in-Chain.result.now in
    let ls = links_of c.in-Chain.links.items in
    let r = c.from_residual-in_err-value-in-Chain.result in
    let seen = ap tree_of c.in-Chain.is ∙ (view-Chain c.in-Chain.first c.in-Chain.links ∙ ap (λ x. chain (tree_of x) ls) (sym c.deref-in-Chain.ensures)) in
    subst (λ x. Evaluates plain AllKnown r s s1 (λ names. eval ps x)) (sym seen)
    (evaluates_exit plain AllKnown plain AllKnown r _ s s1 (λ names. eval ps first) (λ names d. eval_links ps d ls) c.from_residual-in_err-value-in-Chain.ensures.1 c.in_err-value-in-Chain.ensures)

pub eval_any-returns-in_ok-value-in-Chain : goal.eval_any-returns-in_ok-value-in-Chain
eval_any-returns-in_ok-value-in-Chain t c =
    let s = state_of c.args.machine.now in
    let s1 = state_of c.eval-in-Chain.new.machine in
    let s2 = state_of c.chain.new.machine in
    let ps = s.parameters in
    let first = tree_of c.deref-in-Chain.result.now in
    let ls = links_of c.deref-in-Chain-2.result.now in
    let r = c.chain.result in
    let seen = ap tree_of c.in-Chain.is ∙ (view-Chain c.in-Chain.first c.in-Chain.links
    ∙ (ap (λ x. chain (tree_of x) (links_of c.in-Chain.links.items)) (sym c.deref-in-Chain.ensures) ∙ ap (λ xs. chain first (links_of xs)) (sym c.deref-in-Chain-2.ensures.value))) in
    subst (λ x. Evaluates plain AllKnown r s s2 (λ names. eval ps x)) (sym seen)
    (evaluates_on plain AllKnown plain AllKnown c.in_ok-value-in-Chain.value r s s1 s2 (λ names. eval ps first) (λ qs names d. eval_links qs d ls) c.in_ok-value-in-Chain.ensures c.chain.ensures)

pub eval_any-returns-in_err-a-in-Compare : goal.eval_any-returns-in_err-a-in-Compare
eval_any-returns-in_err-a-in-Compare t c =
    let s = state_of c.args.machine.now in
    let s1 = state_of c.eval-in-Compare.new.machine in
    let ps = s.parameters in
    let rel = c.in-Compare.relation in
    let left = tree_of c.deref-in-Compare.result.now in
    let right = tree_of c.in-Compare.right.value in
    let r = c.from_residual-in_err-a-in-Compare.result in
    let seen = ap tree_of c.in-Compare.is ∙ (view-Compare rel c.in-Compare.left c.in-Compare.right ∙ ap (λ x. compare rel (tree_of x) right) (sym c.deref-in-Compare.ensures)) in
    subst (λ x. Evaluates plain AllKnown r s s1 (λ names. eval ps x)) (sym seen)
    (evaluates_exit plain AllKnown plain AllKnown r _ s s1 (λ names. eval ps left) (λ names a. eval ps right >>= (λ b. ask (combines (relation rel) a b))) c.from_residual-in_err-a-in-Compare.ensures.1 c.in_err-a-in-Compare.ensures)

pub eval_any-returns-in_ok-a-in-Compare : goal.eval_any-returns-in_ok-a-in-Compare
eval_any-returns-in_ok-a-in-Compare t c =
    let s = state_of c.args.machine.now in
    let s1 = state_of c.eval-in-Compare.new.machine in
    let s2 = state_of c.compared.new.machine in
    let ps = s.parameters in
    let rel = c.in-Compare.relation in
    let left = tree_of c.deref-in-Compare.result.now in
    let right = tree_of c.deref-in-Compare-2.result.now in
    let a = c.in_ok-a-in-Compare.a in
    let r = c.compared.result in
    let seen = ap tree_of c.in-Compare.is ∙ (view-Compare rel c.in-Compare.left c.in-Compare.right
    ∙ (ap (λ x. compare rel (tree_of x) (tree_of c.in-Compare.right.value)) (sym c.deref-in-Compare.ensures) ∙ ap (λ x. compare rel left (tree_of x)) (sym c.deref-in-Compare-2.ensures))) in
    subst (λ x. Evaluates plain AllKnown r s s2 (λ names. eval ps x)) (sym seen)
    (evaluates_on plain AllKnown plain AllKnown a r s s1 s2 (λ names. eval ps left) (λ qs names d. compared_with qs (relation rel) d right) c.in_ok-a-in-Compare.ensures
    (subst (λ op. Evaluates plain AllKnown r s1 s2 (λ names. compared_with s1.parameters op (plain names a) right)) c.relation_of.ensures c.compared.ensures))

pub eval_any-returns-in_err-a-in-Span : goal.eval_any-returns-in_err-a-in-Span
eval_any-returns-in_err-a-in-Span t c =
    let s = state_of c.args.machine.now in
    let s1 = state_of c.eval.new.machine in
    let ps = s.parameters in
    let low = tree_of c.deref-in-Span.result.now in
    let high = tree_of c.in-Span.high.value in
    let r = c.from_residual-in_err-a-in-Span.result in
    let seen = ap tree_of c.in-Span.is ∙ (view-Span c.in-Span.low c.in-Span.high ∙ ap (λ x. span (tree_of x) high) (sym c.deref-in-Span.ensures)) in
    subst (λ x. Evaluates plain AllKnown r s s1 (λ names. eval ps x)) (sym seen)
    (evaluates_exit plain AllKnown plain AllKnown r _ s s1 (λ names. eval ps low) (λ names a. eval ps high >>= (λ b. ask (spans a b))) c.from_residual-in_err-a-in-Span.ensures.1 c.in_err-a-in-Span.ensures)

pub eval_any-returns-in_err-b-in-Span : goal.eval_any-returns-in_err-b-in-Span
eval_any-returns-in_err-b-in-Span t c =
    let s = state_of c.args.machine.now in
    let s1 = state_of c.eval.new.machine in
    let s2 = state_of c.eval-in-Span.new.machine in
    let ps = s.parameters in
    let low = tree_of c.deref-in-Span.result.now in
    let high = tree_of c.deref-in-Span-2.result.now in
    let a = c.in_ok-a-in-Span.a in
    let r = c.from_residual-in_err-b-in-Span.result in
    let seen = ap tree_of c.in-Span.is ∙ (view-Span c.in-Span.low c.in-Span.high
    ∙ (ap (λ x. span (tree_of x) (tree_of c.in-Span.high.value)) (sym c.deref-in-Span.ensures) ∙ ap (λ x. span low (tree_of x)) (sym c.deref-in-Span-2.ensures))) in
    subst (λ x. Evaluates plain AllKnown r s s2 (λ names. eval ps x)) (sym seen)
    (evaluates_on plain AllKnown plain AllKnown a r s s1 s2 (λ names. eval ps low) (λ qs names d. eval qs high >>= (λ b. ask (spans d b))) c.in_ok-a-in-Span.ensures
    (evaluates_exit plain AllKnown plain AllKnown r _ s1 s2 (λ names. eval s1.parameters high) (λ names b. ask (spans (plain names a) b)) c.from_residual-in_err-b-in-Span.ensures.1 c.in_err-b-in-Span.ensures))

pub eval_any-returns-in_ok-b-in-Span : goal.eval_any-returns-in_ok-b-in-Span
eval_any-returns-in_ok-b-in-Span t c =
    let s = state_of c.args.machine.now in
    let s1 = state_of c.eval.new.machine in
    let s2 = state_of c.eval-in-Span.new.machine in
    let ps = s.parameters in
    let low = tree_of c.deref-in-Span.result.now in
    let high = tree_of c.deref-in-Span-2.result.now in
    let a = c.in_ok-a-in-Span.a in
    let b = c.in_ok-b-in-Span.b in
    let r = c.span.result in
    let seen = ap tree_of c.in-Span.is ∙ (view-Span c.in-Span.low c.in-Span.high
    ∙ (ap (λ x. span (tree_of x) (tree_of c.in-Span.high.value)) (sym c.deref-in-Span.ensures) ∙ ap (λ x. span low (tree_of x)) (sym c.deref-in-Span-2.ensures))) in
    subst (λ x. Evaluates plain AllKnown r s s2 (λ names. eval ps x)) (sym seen)
    (evaluates_on plain AllKnown plain AllKnown a r s s1 s2 (λ names. eval ps low) (λ qs names d. eval qs high >>= (λ e. ask (spans d e))) c.in_ok-a-in-Span.ensures
    (evaluates_then plain AllKnown plain AllKnown b r s1 s2 s2 (λ names. eval s1.parameters high) (λ names e. ask (spans (plain names a) e)) c.in_ok-b-in-Span.ensures (c.span.ensures s2)))

pub eval-returns-in-Some : goal.eval-returns-in-Some
eval-returns-in-Some t c =
    let s = state_of c.args.machine.now in
    let z = c.in-Some.z in
    let fit : FitsSigned w64 z = search rules in
    subst (λ y. Evaluates plain AllKnown (Ok (value.Int y)) s s (λ names. eval s.parameters (tree_of c.args.e.now))) (sym (to_z-of_z w64 z fit)) c.in-Some.ensures
