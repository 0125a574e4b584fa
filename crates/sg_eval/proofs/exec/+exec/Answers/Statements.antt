-- Statements of any form.
use Rattle.std.proofs.Common.{◌≡◌, ◌+◌, ◌-◌, ◌<◌, pos, ◌+ℤ◌, ◌≤◌, Ok, Err, [], true, false, Bool, drop, refl, ap, sym, ◌∙◌, subst, arith}
use Rattle.sg_value.specs.Known.{named}
use Rattle.std.specs.Prelude.{if◌then◌else◌}
use Rattle.std.proofs.lemmas.List.{drop_all}
use Rattle.sg_value.specs.Plain.{plain, plain_of_all}
use Rattle.sg_store.specs.Interned.{Keeps}
use Rattle.sg_tree.specs.TreeView.{tree_of, code_of, block_of, arms_of}
use Rattle.sg_tree.specs.declared.stmt.Stmt.TheVariants as stmt
use Rattle.sg_tree.proofs.StatementLevels.{view-Empty, view-Quit, view-Assign, view-If, view-For, view-Do}
use Rattle.sg_tree.proofs.stmt.Stmt.TheLaws.{the_size}
use Rattle.sg_eval.specs.Machine.{state_of}
use Rattle.sg_value.specs.Data.{int}
use Rattle.sg_eval.specs.Outcomes.{Evaluates, plain_items}
use Rattle.sg_meaning.specs.Entries.{integers_from}
use Rattle.sg_eval.specs.Ranges.{entries_in, are_known}
use Rattle.sg_eval.proofs.Ranged.{integers_left, integers_all, integers_over, counted_step}
use Rattle.sg_meaning.specs.Vars.{with_value}
use Rattle.sg_meaning.specs.Process.{gives, sets, ◌>>=◌}
use Rattle.sg_meaning.specs.Statements.{exec, exec_all, over}
use Rattle.sg_eval.specs.Steps.{Executed, arm_done, held, listed_of}
use Rattle.sg_eval.specs.Truths.{itself, no_semigroup}
use Rattle.sg_eval.proofs.Blocks.{block_of-drop, arms_of-drop, arm_step, choose_step, each_step}
use Rattle.sg_eval.proofs.Evaluating.{keeps_all, all_known_later, plain_of_all_later}
use Rattle.sg_eval.proofs.Executing.{at_top, executed_as, executed_then, executed_in, executed_value, executed_exit, executed_memory, executed_gives, executed_sets}
use Rattle.sg_eval.proofs.FoldLoop.{known_at, known-drop, plain_of_all-drop}
use Rattle.sg_eval.proofs.Later.{copy_known, copy_plain}
use Rattle.sg_eval.proofs.Sizes.{block_size, arms_size, size-arms, size-other, statement-at, arm-at}
use Rattle.sg_eval.proofs.exec.+exec.Goals as goal

pub exec-exec_arms-requires : goal.exec-exec_arms-requires
exec-exec_arms-requires g t c κs within =
    let small : arms_size c.deref.result.now < the_size c.args.stmt.now =
    subst (λ s. arms_size c.deref.result.now < the_size s) (sym c.in-If.is) (subst (λ gs. arms_size gs < the_size (stmt.If c.in-If.arms c.in-If.other)) (sym c.deref.ensures.value) (size-arms c.in-If.arms c.in-If.other)) in
    (omega (arith, small), (within, c.requires))

pub exec-exec_all-requires : goal.exec-exec_all-requires
exec-exec_all-requires g t c κs within =
    let small : block_size c.deref-in-If.result.now < the_size c.args.stmt.now =
    subst (λ s. block_size c.deref-in-If.result.now < the_size s) (sym c.in-If.is) (subst (λ ss. block_size ss < the_size (stmt.If c.in-If.arms c.in-If.other)) (sym c.deref-in-If.ensures.value) (size-other c.in-If.arms c.in-If.other)) in
    (omega (arith, small), (within, c.in_ok-exec_arms-in-If.ensures.done.parameters))

pub exec-returns-in-Empty-clause-done : goal.exec-returns-in-Empty-clause-done
exec-returns-in-Empty-clause-done g t c =
    let s = state_of c.args.machine.now in
    let o = g.W.Sink.taken c.args.out.now in
    subst (λ k. Executed (Ok tt) s s o o (exec k)) (sym (ap code_of c.in-Empty.is ∙ view-Empty)) (executed_gives tt s o c.requires)

pub exec-returns-in-Quit-clause-done : goal.exec-returns-in-Quit-clause-done
exec-returns-in-Quit-clause-done g t c =
    let s = state_of c.args.machine.now in
    let o = g.W.Sink.taken c.args.out.now in
    subst (λ k. Executed (Ok tt) s s o o (exec k)) (sym (ap code_of c.in-Quit.is ∙ view-Quit)) (executed_gives tt s o c.requires)

pub exec-returns-in-Assign-clause-done : goal.exec-returns-in-Assign-clause-done
exec-returns-in-Assign-clause-done g t c =
    let s = state_of c.args.machine.now in
    let s1 = state_of c.assign.new.machine in
    let o = g.W.Sink.taken c.args.out.now in
    subst (λ k. Executed c.assign.result s s1 o o (exec k)) (sym (ap code_of c.in-Assign.is ∙ view-Assign c.in-Assign.name c.in-Assign.e)) (c.assign.ensures.done o)

pub exec-returns-in-Do-clause-done : goal.exec-returns-in-Do-clause-done
exec-returns-in-Do-clause-done g t c =
    let s = state_of c.args.machine.now in
    let s1 = state_of c.perform.new.machine in
    subst (λ k. Executed c.perform.result s s1 (g.W.Sink.taken c.args.out.now) (g.W.Sink.taken c.perform.new.out) (exec k)) (sym (ap code_of c.in-Do.is ∙ view-Do c.in-Do.e)) c.perform.ensures.done

pub exec-returns-in_err-exec_arms-in-If-clause-done : goal.exec-returns-in_err-exec_arms-in-If-clause-done
exec-returns-in_err-exec_arms-in-If-clause-done g t c =
    let s = state_of c.args.machine.now in
    let s1 = state_of c.exec_arms.new.machine in
    let o = g.W.Sink.taken c.args.out.now in
    let o1 = g.W.Sink.taken c.exec_arms.new.out in
    let arms = arms_of c.in-If.arms.items in
    let other = exec_all (block_of c.in-If.other.items) in
    let r = c.from_residual.result in
    let e = c.in_err-exec_arms-in-If.field-0.0 in
    let h = subst (λ gs. Executed {A = Bool} (Err e) s s1 o o1 (arm_done (arms_of gs))) c.deref.ensures.value c.in_err-exec_arms-in-If.ensures.done in
    subst (λ k. Executed r s s1 o o1 (exec k)) (sym (ap code_of c.in-If.is ∙ view-If c.in-If.arms c.in-If.other))
    (executed_as (arm_done arms >>= (λ b. if b then gives tt else other)) _ r s s1 o o1 (choose_step arms other) (executed_in (arm_done arms) (λ b. if b then gives tt else other) r e s s1 o o1 c.from_residual.ensures.1 h))

pub exec-returns-then-branch-clause-done : goal.exec-returns-then-branch-clause-done
exec-returns-then-branch-clause-done g t c =
    let s = state_of c.args.machine.now in
    let s1 = state_of c.exec_arms.new.machine in
    let o = g.W.Sink.taken c.args.out.now in
    let o1 = g.W.Sink.taken c.exec_arms.new.out in
    let arms = arms_of c.in-If.arms.items in
    let other = exec_all (block_of c.in-If.other.items) in
    let h = subst (λ b. Executed (Ok b) s s1 o o1 (arm_done arms)) c.if-branch.true (subst (λ gs. Executed (Ok c.in_ok-exec_arms-in-If.field-0) s s1 o o1 (arm_done (arms_of gs))) c.deref.ensures.value c.in_ok-exec_arms-in-If.ensures.done) in
    subst (λ k. Executed (Ok tt) s s1 o o1 (exec k)) (sym (ap code_of c.in-If.is ∙ view-If c.in-If.arms c.in-If.other))
    (executed_as (arm_done arms >>= (λ b. if b then gives tt else other)) _ (Ok tt) s s1 o o1 (choose_step arms other)
    (executed_then (arm_done arms) (λ b. if b then gives tt else other) true (Ok tt) s s1 s1 o o1 o1 h (executed_gives tt s1 o1 h.parameters)))

pub exec-returns-else-branch-clause-done : goal.exec-returns-else-branch-clause-done
exec-returns-else-branch-clause-done g t c =
    let s = state_of c.args.machine.now in
    let s1 = state_of c.exec_arms.new.machine in
    let s2 = state_of c.exec_all.new.machine in
    let o = g.W.Sink.taken c.args.out.now in
    let o1 = g.W.Sink.taken c.exec_arms.new.out in
    let o2 = g.W.Sink.taken c.exec_all.new.out in
    let arms = arms_of c.in-If.arms.items in
    let other = exec_all (block_of c.in-If.other.items) in
    let r = c.exec_all.result in
    let h = subst (λ b. Executed (Ok b) s s1 o o1 (arm_done arms)) c.if-branch.false (subst (λ gs. Executed (Ok c.in_ok-exec_arms-in-If.field-0) s s1 o o1 (arm_done (arms_of gs))) c.deref.ensures.value c.in_ok-exec_arms-in-If.ensures.done) in
    subst (λ k. Executed r s s2 o o2 (exec k)) (sym (ap code_of c.in-If.is ∙ view-If c.in-If.arms c.in-If.other))
    (executed_as (arm_done arms >>= (λ b. if b then gives tt else other)) _ r s s2 o o2 (choose_step arms other)
    (executed_then (arm_done arms) (λ b. if b then gives tt else other) false r s s1 s2 o o1 o2 h (subst (λ ss. Executed r s1 s2 o1 o2 (exec_all (block_of ss))) c.deref-in-If.ensures.value c.exec_all.ensures.done)))

pub exec-returns-in_err-list-in-For-clause-done : goal.exec-returns-in_err-list-in-For-clause-done
exec-returns-in_err-list-in-For-clause-done g t c =
    let s = state_of c.args.machine.now in
    let s1 = state_of c.list_of.new.machine in
    let o = g.W.Sink.taken c.args.out.now in
    let x = c.in-For.name in
    let list = tree_of c.in-For.e in
    let body = block_of c.in-For.body.items in
    let r = c.from_residual-in_err-list-in-For.result in
    subst (λ k. Executed r s s1 o o (exec k)) (sym (ap code_of c.in-For.is ∙ view-For x c.in-For.e c.in-For.body))
    (executed_as (listed_of [] list >>= over (λ e. sets x e (exec_all body))) _ r s s1 o o (each_step x list body)
    (executed_exit entries_in are_known (listed_of [] list) (over (λ e. sets x e (exec_all body))) r _ s s1 o c.from_residual-in_err-list-in-For.ensures.1
    (at_top entries_in are_known _ s s1 (λ ps. listed_of ps list) c.requires c.in_err-list-in-For.ensures)))

pub exec-returns-in-Listed-clause-done : goal.exec-returns-in-Listed-clause-done
exec-returns-in-Listed-clause-done g t c =
    let s = state_of c.args.machine.now in
    let s1 = state_of c.list_of.new.machine in
    let s2 = state_of c.repeat.new.machine in
    let o = g.W.Sink.taken c.args.out.now in
    let o2 = g.W.Sink.taken c.repeat.new.out in
    let x = c.in-For.name in
    let list = tree_of c.in-For.e in
    let body = block_of c.in-For.body.items in
    let es = c.in_ok-list-in-For.field-0 in
    let r = c.repeat.result in
    let did = subst (λ ds. Executed r s1 s2 o o2 (over (λ e. sets x e (exec_all body)) (plain_items (named s1.names) ds))) c.as_slice.ensures
    (subst (λ ss. Executed r s1 s2 o o2 (over (λ e. sets x e (exec_all (block_of ss))) (plain_of_all (named s1.names) c.as_slice.result.now))) c.deref-in-Listed.ensures.value c.repeat.ensures.done) in
    subst (λ k. Executed r s s2 o o2 (exec k)) (sym (ap code_of c.in-For.is ∙ view-For x c.in-For.e c.in-For.body))
    (executed_as (listed_of [] list >>= over (λ e. sets x e (exec_all body))) _ r s s2 o o2 (each_step x list body)
    (executed_value entries_in are_known (listed_of [] list) (over (λ e. sets x e (exec_all body))) es r s s1 s2 o o2
    (at_top entries_in are_known (Ok es) s s1 (λ ps. listed_of ps list) c.requires c.in_ok-list-in-For.ensures)
    (subst (λ y. Executed r s1 s2 o o2 (over (λ e. sets x e (exec_all body)) (entries_in (named s1.names) y))) (sym c.in-Listed.is) did)))

pub exec-returns-in-Counted-clause-done : goal.exec-returns-in-Counted-clause-done
exec-returns-in-Counted-clause-done g t c =
    let s = state_of c.args.machine.now in
    let s1 = state_of c.list_of.new.machine in
    let s2 = state_of c.count_up.new.machine in
    let o = g.W.Sink.taken c.args.out.now in
    let o2 = g.W.Sink.taken c.count_up.new.out in
    let x = c.in-For.name in
    let list = tree_of c.in-For.e in
    let body = block_of c.in-For.body.items in
    let es = c.in_ok-list-in-For.field-0 in
    let range = c.in-Counted.range in
    let r = c.count_up.result in
    let did = subst (λ ss. Executed r s1 s2 o o2 (over (λ e. sets x e (exec_all (block_of ss))) (integers_from range.first range.count))) c.deref-in-Counted.ensures.value c.count_up.ensures.done in
    subst (λ k. Executed r s s2 o o2 (exec k)) (sym (ap code_of c.in-For.is ∙ view-For x c.in-For.e c.in-For.body))
    (executed_as (listed_of [] list >>= over (λ e. sets x e (exec_all body))) _ r s s2 o o2 (each_step x list body)
    (executed_value entries_in are_known (listed_of [] list) (over (λ e. sets x e (exec_all body))) es r s s1 s2 o o2
    (at_top entries_in are_known (Ok es) s s1 (λ ps. listed_of ps list) c.requires c.in_ok-list-in-For.ensures)
    (subst (λ y. Executed r s1 s2 o o2 (over (λ e. sets x e (exec_all body)) (entries_in (named s1.names) y))) (sym c.in-Counted.is) did)))
