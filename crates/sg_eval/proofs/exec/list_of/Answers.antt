use Rattle.sg_eval.specs.declared.sequence.Sequence.TheVariants as sequence
use Rattle.std.proofs.Common.{Ok, ap, sym, ◌∙◌, subst}
use Rattle.sg_value.specs.Plain.{AllKnown, plain}
use Rattle.sg_rows.specs.Kinds.{as_list}
use Rattle.sg_tree.specs.Tree.{span}
use Rattle.sg_tree.specs.TreeView.{tree_of}
use Rattle.sg_tree.proofs.ExpressionLevels.{view-Span}
use Rattle.sg_meaning.specs.Expressions.{eval, listed}
use Rattle.sg_eval.specs.Machine.{state_of}
use Rattle.sg_eval.specs.Outcomes.{Evaluates, plain_items, known_items}
use Rattle.sg_meaning.specs.Process.{gives, ◌>>=◌}
use Rattle.sg_eval.specs.Ranges.{ranged, entries_in, are_known}
use Rattle.sg_eval.specs.Steps.{listed_of}
use Rattle.sg_eval.proofs.Evaluating.{evaluates_as, evaluates_exit, evaluates_then, evaluates_on}
use Rattle.sg_eval.proofs.Ranged.{span_step, entries_listed, exit_as}
use Rattle.sg_eval.proofs.exec.list_of.Goals as goal

pub returns-in_err-a : goal.returns-in_err-a
returns-in_err-a c =
    let s = state_of c.args.machine.now in
    let s1 = state_of c.eval.new.machine in
    let ps = s.parameters in
    let low = tree_of c.deref.result.now in
    let high = tree_of c.in-Span.high.value in
    let r = c.from_residual.result in
    let seen = ap tree_of c.in-Span.is ∙ (view-Span c.in-Span.low c.in-Span.high ∙ ap (λ x. span (tree_of x) high) (sym c.deref.ensures)) in
    subst (λ x. Evaluates entries_in are_known r s s1 (λ names. listed_of ps x)) (sym seen)
    (evaluates_as entries_in are_known r s s1 (λ names. eval ps low >>= (λ a. eval ps high >>= ranged a)) (λ names. listed_of ps (span low high)) (λ names. span_step ps low high)
    (evaluates_exit plain AllKnown entries_in are_known r _ s s1 (λ names. eval ps low) (λ names a. eval ps high >>= ranged a) c.from_residual.ensures.1 c.in_err-a.ensures))

pub returns-in_err-b : goal.returns-in_err-b
returns-in_err-b c =
    let s = state_of c.args.machine.now in
    let s1 = state_of c.eval.new.machine in
    let s2 = state_of c.eval-in-Span.new.machine in
    let ps = s.parameters in
    let low = tree_of c.deref.result.now in
    let high = tree_of c.deref-in-Span.result.now in
    let a = c.in_ok-a.a in
    let r = c.from_residual-in_err-b.result in
    let seen = ap tree_of c.in-Span.is ∙ (view-Span c.in-Span.low c.in-Span.high
    ∙ (ap (λ x. span (tree_of x) (tree_of c.in-Span.high.value)) (sym c.deref.ensures) ∙ ap (λ x. span low (tree_of x)) (sym c.deref-in-Span.ensures))) in
    subst (λ x. Evaluates entries_in are_known r s s2 (λ names. listed_of ps x)) (sym seen)
    (evaluates_as entries_in are_known r s s2 (λ names. eval ps low >>= (λ a. eval ps high >>= ranged a)) (λ names. listed_of ps (span low high)) (λ names. span_step ps low high)
    (evaluates_on plain AllKnown entries_in are_known a r s s1 s2 (λ names. eval ps low) (λ qs names d. eval qs high >>= ranged d) c.in_ok-a.ensures
    (evaluates_exit plain AllKnown entries_in are_known r _ s1 s2 (λ names. eval s1.parameters high) (λ names b. ranged (plain names a) b) c.from_residual-in_err-b.ensures.1 c.in_err-b.ensures)))

pub returns-in-Span : goal.returns-in-Span
returns-in-Span c =
    let s = state_of c.args.machine.now in
    let s1 = state_of c.eval.new.machine in
    let s2 = state_of c.eval-in-Span.new.machine in
    let ps = s.parameters in
    let low = tree_of c.deref.result.now in
    let high = tree_of c.deref-in-Span.result.now in
    let a = c.in_ok-a.a in
    let b = c.in_ok-b.b in
    let r = c.range.result in
    let seen = ap tree_of c.in-Span.is ∙ (view-Span c.in-Span.low c.in-Span.high
    ∙ (ap (λ x. span (tree_of x) (tree_of c.in-Span.high.value)) (sym c.deref.ensures) ∙ ap (λ x. span low (tree_of x)) (sym c.deref-in-Span.ensures))) in
    subst (λ x. Evaluates entries_in are_known r s s2 (λ names. listed_of ps x)) (sym seen)
    (evaluates_as entries_in are_known r s s2 (λ names. eval ps low >>= (λ a. eval ps high >>= ranged a)) (λ names. listed_of ps (span low high)) (λ names. span_step ps low high)
    (evaluates_on plain AllKnown entries_in are_known a r s s1 s2 (λ names. eval ps low) (λ qs names d. eval qs high >>= ranged d) c.in_ok-a.ensures
    (evaluates_then plain AllKnown entries_in are_known b r s1 s2 s2 (λ names. eval s1.parameters high) (λ names e. ranged (plain names a) e) c.in_ok-b.ensures (c.range.ensures s2))))

pub returns-in_err-value : goal.returns-in_err-value
returns-in_err-value c =
    let s = state_of c.args.machine.now in
    evaluates_exit plain AllKnown entries_in are_known c.from_residual-in_err-value.result _ s (state_of c.eval-2.new.machine) (λ names. eval s.parameters (tree_of c.args.e.now)) (λ names d. listed (as_list d) (λ ds. gives ds)) c.from_residual-in_err-value.ensures.1 c.in_err-value.ensures

pub returns-in_err-entries : goal.returns-in_err-entries
returns-in_err-entries c =
    let s = state_of c.args.machine.now in
    let s1 = state_of c.eval-2.new.machine in
    let v = c.in_ok-value.value in
    let h = c.in_ok-value.ensures in
    let r = c.from_residual-in_err-entries.result in
    evaluates_then plain AllKnown entries_in are_known v r s s1 s1 (λ names. eval s.parameters (tree_of c.args.e.now)) (λ names d. listed (as_list d) (λ ds. gives ds)) h
    (exit_as plain_items known_items entries_in are_known r _ s1 s1 (λ names. listed (as_list (plain names v)) (λ ds. gives ds)) c.from_residual-in_err-entries.ensures.1 (c.in_err-entries.ensures s1 h.is_known))

pub returns : goal.returns
returns c =
    let s = state_of c.args.machine.now in
    let s1 = state_of c.eval-2.new.machine in
    let v = c.in_ok-value.value in
    let ds = c.in_ok-entries.field-0 in
    let h = c.in_ok-value.ensures in
    evaluates_then plain AllKnown entries_in are_known v (Ok (sequence.Listed ds)) s s1 s1 (λ names. eval s.parameters (tree_of c.args.e.now)) (λ names d. listed (as_list d) (λ ds. gives ds)) h
    (entries_listed ds s1 s1 (λ names. listed (as_list (plain names v)) (λ ds. gives ds)) (c.in_ok-entries.ensures s1 h.is_known))
