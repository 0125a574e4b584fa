-- Lists of expressions, and entries of lists.
use Rattle.std.proofs.Common.{◌≡◌, get_or, rules, ◌+◌, ◌∷◌, Ok, Err, Some, None, true, false, length, drop, refl, ap, sym, ◌∙◌, subst}
use Rattle.std.specs.Prelude.{FitsSigned}
use Rattle.std.specs.Int.{w64}
use Rattle.std.proofs.lemmas.Int.{to_z-of_z}
use Rattle.sg_value.specs.declared.value.Value.TheVariants as value
use Rattle.sg_value.specs.Known.{named}
use Rattle.sg_value.specs.Data.{truth, EachThingOfAll}
use Rattle.sg_value.specs.Plain.{AllKnown, AllKnownIn, IsKnown, plain, plain_of_all}
use Rattle.sg_tree.specs.Tree.{call, variable, display, span, item, minus, negation, chain, compare}
use Rattle.sg_tree.specs.TreeView.{tree_of, trees_of, links_of}
use Rattle.sg_tree.proofs.ExpressionLevels.{view-Var, view-Display, view-Span, view-Item, view-Minus, view-Not, view-Chain, view-Compare}
use Rattle.sg_meaning.specs.Expressions.{folded, eval, eval_all, eval_places, eval_links, negated, turned, decided, ask, relation, eval_given, eval_folding, plain_alone}
use Rattle.sg_eval.specs.Linked.{placed, linked, ends_chain, compared_with}
use Rattle.sg_eval.specs.Machine.{state_of}
use Rattle.sg_eval.specs.Outcomes.{Evaluates, plain_in, known_in, plain_items, known_items}
use Rattle.sg_meaning.specs.Process.{gives, refuses, ◌>>=◌}
use Rattle.sg_meaning.specs.Queries.{lists, combines, indexes, spans, calls}
use Rattle.sg_eval.proofs.Evaluating.{evaluates_exit, evaluates_then, evaluates_on, evaluates_gives, evaluates_as, evaluates_memory, known_later, all_known_later, evaluates_bound, evaluates_bound_exit, evaluates_later, plain_later}
use Rattle.sg_eval.proofs.Later.{copy_plain}
use Rattle.std.proofs.lemmas.List.{drop_all}
use Rattle.sg_tree.specs.TreeView.{argument_of, arguments_of}
use Rattle.sg_tree.proofs.ExpressionLevels.{view-Plain, view-Arrow, view-Call}
use Rattle.sg_rows.specs.declared.fault.CallFault.TheVariants.{Script}
use Rattle.sg_rows.specs.declared.fault.Fault.TheVariants.{WrongType, WrongCount}
use Rattle.sg_eval.specs.Given.{plain_if, known_if, plain_where, known_where, eval_argument}
use Rattle.sg_eval.proofs.GivenSteps.{arguments_of-drop, after_given, given_none, given_over, known_with, known_where_later, count_with, given_then, given_exit, evaluates_refuses}
use Rattle.sg_eval.proofs.Steps.{trees_of-drop, links_of-drop, place_then, place_exit, value_then, value_exit, link_then, link_exit, link_as, unless_ended, front_none, front_over, after_front, all_known_more, link_rest, linked_as, linked_combines, rest_decides}
use Rattle.sg_eval.specs.Truths.{itself, no_semigroup}
use Rattle.sg_value.specs.Data.{none, item as item_of}
use Rattle.sg_rows.specs.Order.{Plain}
use Rattle.sg_eval.specs.Folded.{goes_on, fold_on, fold_rest, listed_if}
use Rattle.sg_tree.specs.declared.expr.Expr.{the_lemmas}
use Rattle.sg_tree.specs.declared.expr.Arg.{the_lemmas as argument_lemmas}
use Rattle.sg_eval.proofs.FoldSteps.{gathered_known, gathered_plain, fold_is}
use Rattle.sg_eval.proofs.FoldLoop.{wrong_count, fold_as, second_is, listed_if_bind, plain_of_all-drop, known_at, entry_exit, value_wrong, entry_then, entry_gathered}
use Rattle.sg_eval.proofs.eval.+eval.Goals as goal

pub display-returns-in_err-eval_all : goal.display-returns-in_err-eval_all
display-returns-in_err-eval_all t c =
    let ps = (state_of c.args.machine.now).parameters in
    evaluates_exit plain_in known_in plain AllKnown c.from_residual.result _ _ _ (λ names. eval_all ps (trees_of c.args.entries.now)) (λ names ds. ask (lists ds)) c.from_residual.ensures.1 c.in_err-eval_all.ensures

pub display-returns : goal.display-returns
display-returns t c =
    let ps = (state_of c.args.machine.now).parameters in
    let e = c.in_ok-eval_all.ensures in
    let s1 = state_of c.eval_all.new.machine in
    evaluates_then plain_in known_in plain AllKnown c.in_ok-eval_all.field-0 c.list_of.result _ s1 s1 (λ names. eval_all ps (trees_of c.args.entries.now)) (λ names ds. ask (lists ds)) e (c.list_of.ensures s1 e.is_known)

pub item_at-returns-in_err-at : goal.item_at-returns-in_err-at
item_at-returns-in_err-at t c =
    let ps = (state_of c.args.machine.now).parameters in
    evaluates_exit plain AllKnown plain AllKnown c.from_residual.result _ _ _ (λ names. eval ps (tree_of c.args.place.now)) (λ names i. ask (indexes (plain names c.args.list) i)) c.from_residual.ensures.1 c.in_err-at.ensures

pub item_at-returns : goal.item_at-returns
item_at-returns t c =
    let ps = (state_of c.args.machine.now).parameters in
    let s = state_of c.args.machine.now in
    let s1 = state_of c.eval.new.machine in
    let e = c.in_ok-at.ensures in
    evaluates_then plain AllKnown plain AllKnown c.in_ok-at.at c.index.result s s1 s1 (λ names. eval ps (tree_of c.args.place.now)) (λ names i. ask (indexes (plain names c.args.list) i)) e
    (c.index.ensures s1 (known_later s.names s1.names c.args.list e.keeps c.requires))

pub item-loop-place-preserved : goal.item-loop-place-preserved
item-loop-place-preserved t c =
    let ps = (state_of c.args.machine.now).parameters in
    let s = state_of c.loop-place.machine in
    let s1 = state_of c.item_at.new.machine in
    let inv = c.loop-place.invariant in
    let i = c.loop-place.place-index in
    let es = c.args.places.now in
    let e = c.place-item.result in
    let h = c.in_ok-value.ensures in
    record {
      known = h.is_known;
      same = h.parameters ∙ inv.same;
      reached = λ r s2 g. inv.reached r s2 (subst (λ ts. Evaluates plain AllKnown r s s2 (λ names. eval_places ps (plain names c.loop-place.value) ts)) (sym (trees_of-drop es i e c.loop-place-test.true c.place-item.is))
          (place_then ps s s1 (tree_of e) inv.same (trees_of (drop (i + 1) es)) c.loop-place.value c.in_ok-value.value r s2 h g));
    }

pub item-returns-in_err-value : goal.item-returns-in_err-value
item-returns-in_err-value t c =
    let ps = (state_of c.args.machine.now).parameters in
    let s = state_of c.loop-place.machine in
    let s1 = state_of c.item_at.new.machine in
    let inv = c.loop-place.invariant in
    let i = c.loop-place.place-index in
    let es = c.args.places.now in
    let e = c.place-item.result in
    let r = c.from_residual.result in
    inv.reached r s1 (subst (λ ts. Evaluates plain AllKnown r s s1 (λ names. eval_places ps (plain names c.loop-place.value) ts)) (sym (trees_of-drop es i e c.loop-place-test.true c.place-item.is))
    (place_exit ps s s1 (tree_of e) inv.same (trees_of (drop (i + 1) es)) c.loop-place.value r _ c.from_residual.ensures.1 c.in_err-value.ensures))

pub item-returns : goal.item-returns
item-returns t c =
    let ps = (state_of c.args.machine.now).parameters in
    let s = state_of c.loop-place.machine in
    let inv = c.loop-place.invariant in
    let v = c.loop-place.value in
    inv.reached (Ok v) s (subst (λ es. Evaluates plain AllKnown (Ok v) s s (λ names. eval_places ps (plain names v) (trees_of es))) (sym (drop_all c.loop-place.place-index c.args.places.now c.loop-place-test.false))
    (evaluates_gives plain AllKnown v s (λ names. plain names v) inv.known (λ final later. refl)))

pub eval_all-loop-e-init : goal.eval_all-loop-e-init
eval_all-loop-e-init t c =
    let s = state_of c.args.machine.now in
    let ts = trees_of c.args.es.now in
    record {
      known = subst (AllKnownIn (named s.names)) (sym c.new-values.ensures.items) tt;
      same = refl;
      reached = λ r s2 h. evaluates_as plain_in known_in r s s2 (λ names. after_front s.parameters ts (plain_of_all names c.new-values.result.items)) (λ names. eval_all s.parameters ts)
          (λ names. front_none s.parameters ts names c.new-values.result.items c.new-values.ensures.items) h;
    }

pub eval_all-returns-in_err-value : goal.eval_all-returns-in_err-value
eval_all-returns-in_err-value t c =
    let ps = (state_of c.args.machine.now).parameters in
    let s = state_of c.loop-e.machine in
    let s1 = state_of c.eval.new.machine in
    let inv = c.loop-e.invariant in
    let i = c.loop-e.e-index in
    let es = c.args.es.now in
    let e = c.e-item.result in
    let vs = c.loop-e.values.items in
    let r = c.from_residual.result in
    inv.reached r s1 (subst (λ ts. Evaluates plain_in known_in r s s1 (λ names. after_front ps ts (plain_of_all names vs))) (sym (trees_of-drop es i e c.loop-e-test.true c.e-item.is))
    (value_exit ps s s1 (tree_of e) (trees_of (drop (i + 1) es)) vs inv.same r _ c.from_residual.ensures.1 c.in_err-value.ensures))

pub eval_all-returns-in_err-put : goal.eval_all-returns-in_err-put
eval_all-returns-in_err-put t c =
    let ps = (state_of c.args.machine.now).parameters in
    let s = state_of c.loop-e.machine in
    let s1 = state_of c.eval.new.machine in
    let e = c.in_ok-value.ensures in
    let r = c.from_residual-in_err-put.result in
    c.loop-e.invariant.reached r s1 (evaluates_memory plain_in known_in r _ s s1 _ e.keeps e.variables e.budget c.from_residual-in_err-put.ensures.1)

pub eval_all-loop-e-preserved : goal.eval_all-loop-e-preserved
eval_all-loop-e-preserved t c =
    let ps = (state_of c.args.machine.now).parameters in
    let s = state_of c.loop-e.machine in
    let s1 = state_of c.eval.new.machine in
    let inv = c.loop-e.invariant in
    let i = c.loop-e.e-index in
    let es = c.args.es.now in
    let e = c.e-item.result in
    let vs = c.loop-e.values.items in
    let ws = c.put.new.values.items in
    let v = c.in_ok-value.value in
    let h = c.in_ok-value.ensures in
    record {
      known = all_known_more (named s1.names) vs ws v c.in_ok-put.ensures (all_known_later s.names s1.names vs h.keeps inv.known) h.is_known;
      same = h.parameters ∙ inv.same;
      reached = λ r s2 g. inv.reached r s2 (subst (λ ts. Evaluates plain_in known_in r s s2 (λ names. after_front ps ts (plain_of_all names vs))) (sym (trees_of-drop es i e c.loop-e-test.true c.e-item.is))
          (value_then ps s s1 (tree_of e) (trees_of (drop (i + 1) es)) vs inv.same v ws r s2 c.in_ok-put.ensures h g));
    }

pub eval_all-returns : goal.eval_all-returns
eval_all-returns t c =
    let ps = (state_of c.args.machine.now).parameters in
    let s = state_of c.loop-e.machine in
    let inv = c.loop-e.invariant in
    let vs = c.loop-e.values in
    inv.reached (Ok vs) s (subst (λ es. Evaluates plain_in known_in (Ok vs) s s (λ names. after_front ps (trees_of es) (plain_of_all names vs.items))) (sym (drop_all c.loop-e.e-index c.args.es.now c.loop-e-test.false))
    (evaluates_as plain_in known_in (Ok vs) s s (λ names. gives (plain_of_all names vs.items)) _ (λ names. front_over names vs.items)
    (evaluates_gives plain_in known_in vs s (λ names. plain_of_all names vs.items) inv.known (λ final later. refl))))
