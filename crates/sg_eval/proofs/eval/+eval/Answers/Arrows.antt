-- Commands with an arrow.
use Rattle.std.proofs.Common.{◌≡◌, get_or, rules, ◌+◌, ◌∷◌, Ok, Err, Some, None, true, false, length, drop, refl, ap, sym, ◌∙◌, subst}
use Rattle.std.specs.Prelude.{FitsSigned}
use Rattle.std.specs.Int.{w64}
use Rattle.std.proofs.lemmas.Int.{to_z-of_z}
use Rattle.sg_value.specs.declared.value.Value.TheVariants as value
use Rattle.sg_value.specs.Known.{named}
use Rattle.sg_value.specs.Data.{truth, EachThingOfAll}
use Rattle.sg_value.specs.Plain.{AllKnown, AllKnownIn, IsKnown, plain, plain_of_all}
use Rattle.sg_tree.specs.Tree.{call, variable, display, span, item, minus, negation, chain, compare}
use Rattle.sg_tree.specs.TreeView.{tree_of, trees_of, links_of}
use Rattle.sg_tree.proofs.ExpressionLevels.{view-Var, view-Display, view-Span, view-Item, view-Minus, view-Not, view-Chain, view-Compare}
use Rattle.sg_meaning.specs.Expressions.{folded, eval, eval_all, eval_places, eval_links, negated, turned, decided, ask, relation, eval_given, eval_folding, plain_alone}
use Rattle.sg_eval.specs.Linked.{placed, linked, ends_chain, compared_with}
use Rattle.sg_eval.specs.Machine.{state_of}
use Rattle.sg_eval.specs.Outcomes.{Evaluates, plain_in, known_in, plain_items, known_items}
use Rattle.sg_meaning.specs.Process.{gives, refuses, ◌>>=◌}
use Rattle.sg_meaning.specs.Queries.{lists, combines, indexes, spans, calls}
use Rattle.sg_eval.proofs.Evaluating.{evaluates_exit, evaluates_then, evaluates_on, evaluates_gives, evaluates_as, evaluates_memory, known_later, all_known_later, evaluates_bound, evaluates_bound_exit, evaluates_later, plain_later}
use Rattle.sg_eval.proofs.Later.{copy_plain}
use Rattle.std.proofs.lemmas.List.{drop_all}
use Rattle.sg_tree.specs.TreeView.{argument_of, arguments_of}
use Rattle.sg_tree.proofs.ExpressionLevels.{view-Plain, view-Arrow, view-Call}
use Rattle.sg_rows.specs.declared.fault.CallFault.TheVariants.{Script}
use Rattle.sg_rows.specs.declared.fault.Fault.TheVariants.{WrongType, WrongCount}
use Rattle.sg_eval.specs.Given.{plain_if, known_if, plain_where, known_where, eval_argument}
use Rattle.sg_eval.proofs.GivenSteps.{arguments_of-drop, after_given, given_none, given_over, known_with, known_where_later, count_with, given_then, given_exit, evaluates_refuses}
use Rattle.sg_eval.proofs.Steps.{trees_of-drop, links_of-drop, place_then, place_exit, value_then, value_exit, link_then, link_exit, link_as, unless_ended, front_none, front_over, after_front, all_known_more, link_rest, linked_as, linked_combines, rest_decides}
use Rattle.sg_eval.specs.Truths.{itself, no_semigroup}
use Rattle.sg_value.specs.Data.{none, item as item_of}
use Rattle.sg_rows.specs.Order.{Plain}
use Rattle.sg_eval.specs.Folded.{goes_on, fold_on, fold_rest, listed_if}
use Rattle.sg_tree.specs.declared.expr.Expr.{the_lemmas}
use Rattle.sg_tree.specs.declared.expr.Arg.{the_lemmas as argument_lemmas}
use Rattle.sg_eval.proofs.FoldSteps.{gathered_known, gathered_plain, fold_is}
use Rattle.sg_eval.proofs.FoldLoop.{wrong_count, fold_as, second_is, listed_if_bind, plain_of_all-drop, known_at, entry_exit, value_wrong, entry_then, entry_gathered}
use Rattle.sg_eval.proofs.eval.+eval.Goals as goal

pub apply-unbind-requires : goal.apply-unbind-requires
apply-unbind-requires t c =
    let s = state_of c.args.machine.now in
    ((c.args.parameter.now, plain (named s.names) c.in_ok-copy.copy), s.parameters, c.in_ok-value.ensures.parameters ∙ c.in_ok-bind.ensures.ok)

pub apply-returns : goal.apply-returns
apply-returns t c =
    let s = state_of c.args.machine.now in
    let s1 = state_of c.bind.new.self in
    let s2 = state_of c.eval.new.machine in
    let s3 = state_of c.unbind.new.self in
    let x = c.args.parameter.now in
    let v = c.args.entry.now in
    let w = c.in_ok-copy.copy in
    let tree = tree_of c.args.body.now in
    let h = c.in_ok-value.ensures in
    let bound = c.in_ok-bind.ensures.ok in
    evaluates_later plain AllKnown (Ok c.in_ok-value.value) s s3 (λ names. eval s1.parameters tree) (λ names. eval ((x, plain names v) ∷ s.parameters) tree)
    (λ final later. ap (λ ps. eval ps tree) (bound ∙ ap (λ d. (x, d) ∷ s.parameters) (copy_plain (named s.names) v w c.in_ok-copy.ensures ∙ sym (plain_later s.names final v later c.requires))))
    (evaluates_bound plain AllKnown c.in_ok-value.value s s1 s2 s3 (λ names. eval s1.parameters tree) c.in_ok-bind.ensures.store c.in_ok-bind.ensures.variables h c.unbind.ensures.store c.unbind.ensures.variables
    (c.unbind.ensures.parameters (x, plain (named s.names) w) s.parameters (h.parameters ∙ bound)))

pub apply-returns-in_err-value : goal.apply-returns-in_err-value
apply-returns-in_err-value t c =
    let s = state_of c.args.machine.now in
    let s1 = state_of c.bind.new.self in
    let s2 = state_of c.eval.new.machine in
    let x = c.args.parameter.now in
    let v = c.args.entry.now in
    let w = c.in_ok-copy.copy in
    let tree = tree_of c.args.body.now in
    let r = c.from_residual-in_err-value.result in
    let bound = c.in_ok-bind.ensures.ok in
    evaluates_later plain AllKnown r s s2 (λ names. eval s1.parameters tree) (λ names. eval ((x, plain names v) ∷ s.parameters) tree)
    (λ final later. ap (λ ps. eval ps tree) (bound ∙ ap (λ d. (x, d) ∷ s.parameters) (copy_plain (named s.names) v w c.in_ok-copy.ensures ∙ sym (plain_later s.names final v later c.requires))))
    (evaluates_bound_exit plain AllKnown plain AllKnown r _ s s1 s2 (λ names. eval s1.parameters tree) c.in_ok-bind.ensures.store c.in_ok-bind.ensures.variables c.from_residual-in_err-value.ensures.1 c.in_err-value.ensures)

pub fold_call-returns-then-args-ne2 : goal.fold_call-returns-then-args-ne2
fold_call-returns-then-args-ne2 t c =
    let s = state_of c.args.machine.now in
    evaluates_as plain AllKnown (Err (Script WrongCount)) s s (λ names. refuses WrongCount) (λ names. eval_folding s.parameters (arguments_of c.args.args.now) c.args.fold)
    (λ names. wrong_count s.parameters c.args.fold c.args.args.now c.if-args-ne2.true) (evaluates_refuses plain AllKnown WrongCount s)

pub fold_call-returns-in_err-first : goal.fold_call-returns-in_err-first
fold_call-returns-in_err-first t c =
    let s = state_of c.args.machine.now in
    let s1 = state_of c.argument.new.machine in
    let ps = s.parameters in
    let fold = c.args.fold in
    let gs = c.args.args.now in
    let a = c.index-args-0.result in
    let b = get_or gs 1 a in
    let r = c.from_residual.result in
    fold_as ps fold gs a b s s1 r c.if-args-ne2.false c.index-args-0.is (second_is gs a b c.if-args-ne2.false refl)
    (evaluates_exit plain_if known_if plain AllKnown r _ s s1 (λ names. eval_argument ps (argument_of a)) (λ names. fold_rest ps fold (argument_of b)) c.from_residual.ensures.1 c.in_err-first.ensures)

pub fold_call-returns-in_err-eval-in-Plain : goal.fold_call-returns-in_err-eval-in-Plain
fold_call-returns-in_err-eval-in-Plain t c =
    let s = state_of c.args.machine.now in
    let s1 = state_of c.argument.new.machine in
    let s2 = state_of c.eval.new.machine in
    let ps = s.parameters in
    let fold = c.args.fold in
    let gs = c.args.args.now in
    let a = c.index-args-0.result in
    let b = c.index-args-1.result in
    let o = c.in_ok-first.first in
    let r = c.from_residual-in_err-eval-in-Plain.result in
    let seen = ap argument_of c.in-Plain.is ∙ view-Plain c.in-Plain.e in
    fold_as ps fold gs a b s s2 r c.if-args-ne2.false c.index-args-0.is c.index-args-1.is
    (evaluates_on plain_if known_if plain AllKnown o r s s1 s2 (λ names. eval_argument ps (argument_of a)) (λ qs names. fold_rest qs fold (argument_of b)) c.in_ok-first.ensures
    (subst (λ x. Evaluates plain AllKnown r s1 s2 (λ names. fold_rest s1.parameters fold x (plain_if names o))) (sym seen)
    (evaluates_exit plain AllKnown plain AllKnown r _ s1 s2 (λ names. eval s1.parameters (tree_of c.in-Plain.e)) (λ names d. refuses WrongType) c.from_residual-in_err-eval-in-Plain.ensures.1 c.in_err-eval-in-Plain.ensures)))

pub fold_call-returns-in_ok-eval-in-Plain : goal.fold_call-returns-in_ok-eval-in-Plain
fold_call-returns-in_ok-eval-in-Plain t c =
    let s = state_of c.args.machine.now in
    let s1 = state_of c.argument.new.machine in
    let s2 = state_of c.eval.new.machine in
    let ps = s.parameters in
    let fold = c.args.fold in
    let gs = c.args.args.now in
    let a = c.index-args-0.result in
    let b = c.index-args-1.result in
    let o = c.in_ok-first.first in
    let r = Err (Script WrongType) in
    let seen = ap argument_of c.in-Plain.is ∙ view-Plain c.in-Plain.e in
    fold_as ps fold gs a b s s2 r c.if-args-ne2.false c.index-args-0.is c.index-args-1.is
    (evaluates_on plain_if known_if plain AllKnown o r s s1 s2 (λ names. eval_argument ps (argument_of a)) (λ qs names. fold_rest qs fold (argument_of b)) c.in_ok-first.ensures
    (subst (λ x. Evaluates plain AllKnown r s1 s2 (λ names. fold_rest s1.parameters fold x (plain_if names o))) (sym seen)
    (evaluates_then plain AllKnown plain AllKnown c.in_ok-eval-in-Plain.field-0 r s1 s2 s2 (λ names. eval s1.parameters (tree_of c.in-Plain.e)) (λ names d. refuses WrongType) c.in_ok-eval-in-Plain.ensures
    (evaluates_refuses plain AllKnown WrongType s2))))

pub fold_call-returns-in_err-entries-in-Arrow : goal.fold_call-returns-in_err-entries-in-Arrow
fold_call-returns-in_err-entries-in-Arrow t c =
    let s = state_of c.args.machine.now in
    let s1 = state_of c.argument.new.machine in
    let ps = s.parameters in
    let fold = c.args.fold in
    let gs = c.args.args.now in
    let a = c.index-args-0.result in
    let b = c.index-args-1.result in
    let o = c.in_ok-first.first in
    let r = c.from_residual-in_err-entries-in-Arrow.result in
    let x = c.in-Arrow.parameter in
    let tree = tree_of c.in-Arrow.body in
    let seen = ap argument_of c.in-Arrow.is ∙ view-Arrow x c.in-Arrow.body in
    fold_as ps fold gs a b s s1 r c.if-args-ne2.false c.index-args-0.is c.index-args-1.is
    (evaluates_on plain_if known_if plain AllKnown o r s s1 s1 (λ names. eval_argument ps (argument_of a)) (λ qs names. fold_rest qs fold (argument_of b)) c.in_ok-first.ensures
    (subst (λ y. Evaluates plain AllKnown r s1 s1 (λ names. fold_rest s1.parameters fold y (plain_if names o))) (sym seen)
    (evaluates_as plain AllKnown r s1 s1 (λ names. listed_if (plain_if names o) (λ ds. gives ds) >>= folded fold (λ e. eval ((x, e) ∷ s1.parameters) tree)) (λ names. listed_if (plain_if names o) (folded fold (λ e. eval ((x, e) ∷ s1.parameters) tree)))
    (λ names. listed_if_bind (plain_if names o) (folded fold (λ e. eval ((x, e) ∷ s1.parameters) tree)))
    (evaluates_exit plain_items known_items plain AllKnown r _ s1 s1 (λ names. listed_if (plain_if names o) (λ ds. gives ds)) (λ names. folded fold (λ e. eval ((x, e) ∷ s1.parameters) tree)) c.from_residual-in_err-entries-in-Arrow.ensures.1
    (c.in_err-entries-in-Arrow.ensures s1 c.in_ok-first.ensures.is_known)))))

pub fold_call-folded-requires : goal.fold_call-folded-requires
fold_call-folded-requires t c =
    let s1 = state_of c.argument.new.machine in
    (search (rules, argument_lemmas, the_lemmas), subst (EachThingOfAll (IsKnown (named s1.names))) (sym c.as_slice.ensures) (c.in_ok-entries-in-Arrow.ensures s1 c.in_ok-first.ensures.is_known).is_known)

pub fold_call-returns-in_ok-entries-in-Arrow : goal.fold_call-returns-in_ok-entries-in-Arrow
fold_call-returns-in_ok-entries-in-Arrow t c =
    let s = state_of c.args.machine.now in
    let s1 = state_of c.argument.new.machine in
    let s2 = state_of c.folded.new.machine in
    let ps = s.parameters in
    let fold = c.args.fold in
    let gs = c.args.args.now in
    let a = c.index-args-0.result in
    let b = c.index-args-1.result in
    let o = c.in_ok-first.first in
    let r = c.folded.result in
    let x = c.in-Arrow.parameter in
    let tree = tree_of c.in-Arrow.body in
    let ds = c.in_ok-entries-in-Arrow.entries in
    let over = λ (e : Plain). eval ((x, e) ∷ s1.parameters) tree in
    let seen = ap argument_of c.in-Arrow.is ∙ view-Arrow x c.in-Arrow.body in
    fold_as ps fold gs a b s s2 r c.if-args-ne2.false c.index-args-0.is c.index-args-1.is
    (evaluates_on plain_if known_if plain AllKnown o r s s1 s2 (λ names. eval_argument ps (argument_of a)) (λ qs names. fold_rest qs fold (argument_of b)) c.in_ok-first.ensures
    (subst (λ y. Evaluates plain AllKnown r s1 s2 (λ names. fold_rest s1.parameters fold y (plain_if names o))) (sym seen)
    (evaluates_as plain AllKnown r s1 s2 (λ names. listed_if (plain_if names o) (λ ds. gives ds) >>= folded fold over) (λ names. listed_if (plain_if names o) (folded fold over))
    (λ names. listed_if_bind (plain_if names o) (folded fold over))
    (evaluates_then plain_items known_items plain AllKnown ds r s1 s1 s2 (λ names. listed_if (plain_if names o) (λ es. gives es)) (λ names. folded fold over) (c.in_ok-entries-in-Arrow.ensures s1 c.in_ok-first.ensures.is_known)
    (evaluates_as plain AllKnown r s1 s2 (λ names. fold_on fold over none (plain_items names ds)) (λ names. folded fold over (plain_items names ds)) (λ names. fold_is over fold (plain_items names ds))
    (subst (λ es. Evaluates plain AllKnown r s1 s2 (λ names. fold_on fold over none (plain_items names es))) c.as_slice.ensures c.folded.ensures))))))

pub folded-apply-requires : goal.folded-apply-requires
folded-apply-requires t c =
    (search rules, known_at (named c.loop-entry.machine.store.ids) c.args.entries.now c.loop-entry.entry-index c.entry-item.result c.loop-entry-test.true c.entry-item.is c.loop-entry.invariant.entries)

pub folded-loop-entry-init : goal.folded-loop-entry-init
folded-loop-entry-init t c =
    let s = state_of c.args.machine.now in
    let over = λ (e : Plain). eval ((c.args.parameter.now, e) ∷ s.parameters) (tree_of c.args.body.now) in
    let vs = c.args.entries.now in
    record {
      entries = c.requires;
      known = subst (AllKnownIn (named s.names)) (sym c.new-gathered.ensures.items) tt;
      same = refl;
      reached = λ r s2 h. subst (λ ws. Evaluates plain AllKnown r s s2 (λ names. fold_on c.args.fold over (plain_of_all names ws) (plain_of_all names vs))) c.new-gathered.ensures.items h;
    }

pub folded-returns-in_err-value : goal.folded-returns-in_err-value
folded-returns-in_err-value t c =
    let ps = (state_of c.args.machine.now).parameters in
    let s = state_of c.loop-entry.machine in
    let s1 = state_of c.apply.new.machine in
    let inv = c.loop-entry.invariant in
    let i = c.loop-entry.entry-index in
    let all = c.args.entries.now in
    let v = c.entry-item.result in
    let vs = c.loop-entry.gathered.items in
    let r = c.from_residual.result in
    let over = λ (e : Plain). eval ((c.args.parameter.now, e) ∷ ps) (tree_of c.args.body.now) in
    inv.reached r s1 (evaluates_as plain AllKnown r s s1 (λ names. fold_on c.args.fold over (plain_of_all names vs) (item_of (plain names v) (plain_of_all names (drop (i + 1) all)))) (λ names. fold_on c.args.fold over (plain_of_all names vs) (plain_of_all names (drop i all)))
    (λ names. ap (fold_on c.args.fold over (plain_of_all names vs)) (sym (plain_of_all-drop names all i v c.loop-entry-test.true c.entry-item.is)))
    (entry_exit ps c.args.parameter.now (tree_of c.args.body.now) c.args.fold s s1 v vs (λ names. plain_of_all names (drop (i + 1) all)) inv.same r _ c.from_residual.ensures.1 c.in_err-value.ensures))

pub folded-returns-in_err-goes_on : goal.folded-returns-in_err-goes_on
folded-returns-in_err-goes_on t c =
    let ps = (state_of c.args.machine.now).parameters in
    let s = state_of c.loop-entry.machine in
    let s1 = state_of c.apply.new.machine in
    let inv = c.loop-entry.invariant in
    let i = c.loop-entry.entry-index in
    let all = c.args.entries.now in
    let v = c.entry-item.result in
    let vs = c.loop-entry.gathered.items in
    let w = c.in_ok-value.value in
    let r = c.from_residual-in_err-goes_on.result in
    let over = λ (e : Plain). eval ((c.args.parameter.now, e) ∷ ps) (tree_of c.args.body.now) in
    inv.reached r s1 (evaluates_as plain AllKnown r s s1 (λ names. fold_on c.args.fold over (plain_of_all names vs) (item_of (plain names v) (plain_of_all names (drop (i + 1) all)))) (λ names. fold_on c.args.fold over (plain_of_all names vs) (plain_of_all names (drop i all)))
    (λ names. ap (fold_on c.args.fold over (plain_of_all names vs)) (sym (plain_of_all-drop names all i v c.loop-entry-test.true c.entry-item.is)))
    (value_wrong ps c.args.parameter.now (tree_of c.args.body.now) c.args.fold s s1 v vs (λ names. plain_of_all names (drop (i + 1) all)) inv.same w c.in_ok-value.ensures r _ c.from_residual-in_err-goes_on.ensures.1 (c.in_err-goes_on.ensures s1)))

pub folded-returns-then-not-branch : goal.folded-returns-then-not-branch
folded-returns-then-not-branch t c =
    let ps = (state_of c.args.machine.now).parameters in
    let s = state_of c.loop-entry.machine in
    let s1 = state_of c.apply.new.machine in
    let inv = c.loop-entry.invariant in
    let i = c.loop-entry.entry-index in
    let all = c.args.entries.now in
    let v = c.entry-item.result in
    let vs = c.loop-entry.gathered.items in
    let w = c.in_ok-value.value in
    let r = c.finished.result in
    let over = λ (e : Plain). eval ((c.args.parameter.now, e) ∷ ps) (tree_of c.args.body.now) in
    let ends : c.in_ok-goes_on.field-0 ≡ false = search rules in
    inv.reached r s1 (evaluates_as plain AllKnown r s s1 (λ names. fold_on c.args.fold over (plain_of_all names vs) (item_of (plain names v) (plain_of_all names (drop (i + 1) all)))) (λ names. fold_on c.args.fold over (plain_of_all names vs) (plain_of_all names (drop i all)))
    (λ names. ap (fold_on c.args.fold over (plain_of_all names vs)) (sym (plain_of_all-drop names all i v c.loop-entry-test.true c.entry-item.is)))
    (entry_then ps c.args.parameter.now (tree_of c.args.body.now) c.args.fold s s1 v vs (λ names. plain_of_all names (drop (i + 1) all)) inv.same w c.in_ok-value.ensures false r s1
    (subst (λ b. Evaluates itself no_semigroup (Ok b) s1 s1 (λ names. goes_on c.args.fold (plain names w))) ends (c.in_ok-goes_on.ensures s1))
    (c.finished.ensures s1 (all_known_later s.names s1.names vs c.in_ok-value.ensures.keeps inv.known))))

pub folded-returns-in_err-gather : goal.folded-returns-in_err-gather
folded-returns-in_err-gather t c =
    let s = state_of c.loop-entry.machine in
    let s1 = state_of c.apply.new.machine in
    let h = c.in_ok-value.ensures in
    let r = c.from_residual-in_err-gather.result in
    c.loop-entry.invariant.reached r s1 (evaluates_memory plain AllKnown r _ s s1 _ h.keeps h.variables h.budget c.from_residual-in_err-gather.ensures.1)

pub folded-loop-entry-preserved : goal.folded-loop-entry-preserved
folded-loop-entry-preserved t c =
    let ps = (state_of c.args.machine.now).parameters in
    let s = state_of c.loop-entry.machine in
    let s1 = state_of c.apply.new.machine in
    let inv = c.loop-entry.invariant in
    let i = c.loop-entry.entry-index in
    let all = c.args.entries.now in
    let v = c.entry-item.result in
    let vs = c.loop-entry.gathered.items in
    let ws = c.gather.new.gathered.items in
    let w = c.in_ok-value.value in
    let h = c.in_ok-value.ensures in
    let over = λ (e : Plain). eval ((c.args.parameter.now, e) ∷ ps) (tree_of c.args.body.now) in
    let on : c.in_ok-goes_on.field-0 ≡ true = search rules in
    let entries = all_known_later s.names s1.names all h.keeps inv.entries in
    record {
      entries = entries;
      known = gathered_known (named s1.names) c.args.fold vs ws v w c.in_ok-gather.ensures (all_known_later s.names s1.names vs h.keeps inv.known) (known_at (named s1.names) all i v c.loop-entry-test.true c.entry-item.is entries) h.is_known;
      same = h.parameters ∙ inv.same;
      reached = λ r s2 g. inv.reached r s2 (evaluates_as plain AllKnown r s s2 (λ names. fold_on c.args.fold over (plain_of_all names vs) (item_of (plain names v) (plain_of_all names (drop (i + 1) all)))) (λ names. fold_on c.args.fold over (plain_of_all names vs) (plain_of_all names (drop i all)))
          (λ names. ap (fold_on c.args.fold over (plain_of_all names vs)) (sym (plain_of_all-drop names all i v c.loop-entry-test.true c.entry-item.is)))
          (entry_then ps c.args.parameter.now (tree_of c.args.body.now) c.args.fold s s1 v vs (λ names. plain_of_all names (drop (i + 1) all)) inv.same w h true r s2
          (subst (λ b. Evaluates itself no_semigroup (Ok b) s1 s1 (λ names. goes_on c.args.fold (plain names w))) on (c.in_ok-goes_on.ensures s1))
          (entry_gathered ps c.args.parameter.now (tree_of c.args.body.now) c.args.fold s s1 v vs (λ names. plain_of_all names (drop (i + 1) all)) inv.same w h ws r s2
          (λ names. gathered_plain names c.args.fold vs ws v w c.in_ok-gather.ensures) g)));
    }

pub folded-returns : goal.folded-returns
folded-returns t c =
    let ps = (state_of c.args.machine.now).parameters in
    let s = state_of c.loop-entry.machine in
    let inv = c.loop-entry.invariant in
    let vs = c.loop-entry.gathered.items in
    let r = c.finished-2.result in
    let over = λ (e : Plain). eval ((c.args.parameter.now, e) ∷ ps) (tree_of c.args.body.now) in
    inv.reached r s (subst (λ xs. Evaluates plain AllKnown r s s (λ names. fold_on c.args.fold over (plain_of_all names vs) (plain_of_all names xs))) (sym (drop_all c.loop-entry.entry-index c.args.entries.now c.loop-entry-test.false))
    (c.finished-2.ensures s inv.known))
