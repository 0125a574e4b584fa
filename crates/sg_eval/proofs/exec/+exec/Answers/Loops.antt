-- A block for each entry, or for each integer of a range.
use Rattle.std.proofs.Common.{◌≡◌, ◌+◌, ◌-◌, ◌<◌, pos, ◌+ℤ◌, ◌≤◌, Ok, Err, [], true, false, Bool, drop, refl, ap, sym, ◌∙◌, subst, arith}
use Rattle.sg_value.specs.Known.{named}
use Rattle.std.specs.Prelude.{if◌then◌else◌}
use Rattle.std.proofs.lemmas.List.{drop_all}
use Rattle.sg_value.specs.Plain.{plain, plain_of_all}
use Rattle.sg_store.specs.Interned.{Keeps}
use Rattle.sg_tree.specs.TreeView.{tree_of, code_of, block_of, arms_of}
use Rattle.sg_tree.specs.declared.stmt.Stmt.TheVariants as stmt
use Rattle.sg_tree.proofs.StatementLevels.{view-Empty, view-Quit, view-Assign, view-If, view-For, view-Do}
use Rattle.sg_tree.proofs.stmt.Stmt.TheLaws.{the_size}
use Rattle.sg_eval.specs.Machine.{state_of}
use Rattle.sg_value.specs.Data.{int}
use Rattle.sg_eval.specs.Outcomes.{Evaluates, plain_items}
use Rattle.sg_meaning.specs.Entries.{integers_from}
use Rattle.sg_eval.specs.Ranges.{entries_in, are_known}
use Rattle.sg_eval.proofs.Ranged.{integers_left, integers_all, integers_over, counted_step}
use Rattle.sg_meaning.specs.Vars.{with_value}
use Rattle.sg_meaning.specs.Process.{gives, sets, ◌>>=◌}
use Rattle.sg_meaning.specs.Statements.{exec, exec_all, over}
use Rattle.sg_eval.specs.Steps.{Executed, arm_done, held, listed_of}
use Rattle.sg_eval.specs.Truths.{itself, no_semigroup}
use Rattle.sg_eval.proofs.Blocks.{block_of-drop, arms_of-drop, arm_step, choose_step, each_step}
use Rattle.sg_eval.proofs.Evaluating.{keeps_all, all_known_later, plain_of_all_later}
use Rattle.sg_eval.proofs.Executing.{at_top, executed_as, executed_then, executed_in, executed_value, executed_exit, executed_memory, executed_gives, executed_sets}
use Rattle.sg_eval.proofs.FoldLoop.{known_at, known-drop, plain_of_all-drop}
use Rattle.sg_eval.proofs.Later.{copy_known, copy_plain}
use Rattle.sg_eval.proofs.Sizes.{block_size, arms_size, size-arms, size-other, statement-at, arm-at}
use Rattle.sg_eval.proofs.exec.+exec.Goals as goal

pub repeat-loop-entry-init : goal.repeat-loop-entry-init
repeat-loop-entry-init g t c = record { outside = c.requires.parameters; known = c.requires.known; reached = λ r s o h. h; later = omega arith; sure = refl }

pub repeat-set-requires : goal.repeat-set-requires
repeat-set-requires g t c =
    let names = named c.loop-entry.machine.store.ids in
    record { known = copy_known names c.entry-item.result c.in_ok-try_clone.field-0 c.in_ok-try_clone.ensures (known_at names c.args.entries.now c.loop-entry.entry-index c.entry-item.result c.loop-entry-test.true c.entry-item.is c.loop-entry.invariant.known) }

pub repeat-exec_all-requires : goal.repeat-exec_all-requires
repeat-exec_all-requires g t c κs within = (omega arith, (within, c.in_ok-set.ensures.parameters ∙ c.loop-entry.invariant.outside))

pub repeat-returns-in_err-try_clone-clause-done : goal.repeat-returns-in_err-try_clone-clause-done
repeat-returns-in_err-try_clone-clause-done g t c =
    let s = state_of c.loop-entry.machine in
    let o = g.W.Sink.taken c.loop-entry.out in
    let r = c.from_residual.result in
    c.loop-entry.invariant.reached r s o (executed_memory _ r s s o c.from_residual.ensures.1 (keeps_all s.names) refl refl)

pub repeat-returns-in_err-set-clause-done : goal.repeat-returns-in_err-set-clause-done
repeat-returns-in_err-set-clause-done g t c =
    let s = state_of c.loop-entry.machine in
    let s1 = state_of c.set.new.self in
    let o = g.W.Sink.taken c.loop-entry.out in
    let r = c.from_residual-in_err-set.result in
    c.loop-entry.invariant.reached r s1 o (executed_memory _ r s s1 o c.from_residual-in_err-set.ensures.1 (subst (Keeps s.names) (sym c.in_err-set.ensures.store.names) (keeps_all s.names)) c.in_err-set.ensures.err c.in_err-set.ensures.store.budget)

pub repeat-returns-in_err-exec_all-clause-done : goal.repeat-returns-in_err-exec_all-clause-done
repeat-returns-in_err-exec_all-clause-done g t c =
    let x = c.args.name.now in
    let all = c.args.entries.now in
    let i = c.loop-entry.entry-index in
    let v = c.entry-item.result in
    let w = c.in_ok-try_clone.field-0 in
    let body = exec_all (block_of c.args.body.now) in
    let s = state_of c.loop-entry.machine in
    let s1 = state_of c.set.new.self in
    let s2 = state_of c.exec_all.new.machine in
    let o = g.W.Sink.taken c.loop-entry.out in
    let o2 = g.W.Sink.taken c.exec_all.new.out in
    let r = c.from_residual-in_err-exec_all.result in
    let e = c.in_err-exec_all.field-0.0 in
    let names = named s.names in
    let d = plain names v in
    let rest = plain_of_all names (drop (i + 1) all) in
    let change = c.in_ok-set.ensures.ok ∙ ap (λ k. with_value x k s.variables) (copy_plain names v w c.in_ok-try_clone.ensures) in
    c.loop-entry.invariant.reached r s2 o2 (subst (λ ds. Executed r s s2 o o2 (over (λ k. sets x k body) ds)) (sym (plain_of_all-drop names all i v c.loop-entry-test.true c.entry-item.is))
    (executed_in (sets x d body) (λ u. over (λ k. sets x k body) rest) r e s s2 o o2 c.from_residual-in_err-exec_all.ensures.1
    (executed_sets x d body (Err e) s s1 s2 o o2 c.in_ok-set.ensures.store change c.in_err-exec_all.ensures.done)))

pub repeat-loop-entry-preserved : goal.repeat-loop-entry-preserved
repeat-loop-entry-preserved g t c =
    let x = c.args.name.now in
    let all = c.args.entries.now in
    let i = c.loop-entry.entry-index in
    let v = c.entry-item.result in
    let w = c.in_ok-try_clone.field-0 in
    let body = exec_all (block_of c.args.body.now) in
    let s = state_of c.loop-entry.machine in
    let s1 = state_of c.set.new.self in
    let s2 = state_of c.exec_all.new.machine in
    let o = g.W.Sink.taken c.loop-entry.out in
    let o2 = g.W.Sink.taken c.exec_all.new.out in
    let names = named s.names in
    let d = plain names v in
    let left = drop (i + 1) all in
    let rest = plain_of_all names left in
    let inv = c.loop-entry.invariant in
    let change = c.in_ok-set.ensures.ok ∙ ap (λ k. with_value x k s.variables) (copy_plain names v w c.in_ok-try_clone.ensures) in
    let did = c.in_ok-exec_all.ensures.done in
    let kept = subst (λ a. Keeps a s2.names) c.in_ok-set.ensures.store.names did.keeps in
    record {
      outside = did.parameters;
      known = all_known_later s.names s2.names all kept inv.known;
      reached = λ r s3 o3 h. inv.reached r s3 o3 (subst (λ ds. Executed r s s3 o o3 (over (λ k. sets x k body) ds)) (sym (plain_of_all-drop names all i v c.loop-entry-test.true c.entry-item.is))
          (executed_then (sets x d body) (λ u. over (λ k. sets x k body) rest) tt r s s2 s3 o o2 o3 (executed_sets x d body (Ok tt) s s1 s2 o o2 c.in_ok-set.ensures.store change did)
          (subst (λ ds. Executed r s2 s3 o2 o3 (over (λ k. sets x k body) ds)) (plain_of_all_later s.names s2.names left kept (known-drop names (i + 1) all inv.known)) h)));
      later = omega (arith, inv.later, c.in_ok-exec_all.ensures.cause.later);
      sure = c.in_ok-exec_all.ensures.sure ∙ inv.sure;
    }

pub repeat-returns-clause-done : goal.repeat-returns-clause-done
repeat-returns-clause-done g t c =
    let s = state_of c.loop-entry.machine in
    let o = g.W.Sink.taken c.loop-entry.out in
    let body = exec_all (block_of c.args.body.now) in
    c.loop-entry.invariant.reached (Ok tt) s o (subst (λ vs. Executed (Ok tt) s s o o (over (λ k. sets c.args.name.now k body) (plain_of_all (named s.names) vs))) (sym (drop_all c.loop-entry.entry-index c.args.entries.now c.loop-entry-test.false)) (executed_gives tt s o c.loop-entry.invariant.outside))

pub count_up-loop-i-init : goal.count_up-loop-i-init
count_up-loop-i-init g t c =
    let body = exec_all (block_of c.args.body.now) in
    record {
      outside = c.requires.parameters;
      reached = λ r s o h. subst (λ ds. Executed r (state_of c.args.machine.now) s (g.W.Sink.taken c.args.out.now) o (over (λ k. sets c.args.name.now k body) ds)) (integers_all c.args.range.first c.args.range.count) h;
      later = omega arith;
      sure = refl;
    }

pub count_up-exec_all-requires : goal.count_up-exec_all-requires
count_up-exec_all-requires g t c κs within = (omega arith, (within, c.in_ok-set_integer.ensures.parameters ∙ c.loop-i.invariant.outside))

pub count_up-returns-in_err-set_integer-clause-done : goal.count_up-returns-in_err-set_integer-clause-done
count_up-returns-in_err-set_integer-clause-done g t c =
    let s = state_of c.loop-i.machine in
    let s1 = state_of c.set_integer.new.self in
    let o = g.W.Sink.taken c.loop-i.out in
    let r = c.from_residual.result in
    let h = c.in_err-set_integer.ensures in
    c.loop-i.invariant.reached r s1 o (executed_memory _ r s s1 o c.from_residual.ensures.1 (subst (Keeps s.names) (sym h.store.names) (keeps_all s.names)) h.err h.store.budget)

pub count_up-returns-in_err-exec_all-clause-done : goal.count_up-returns-in_err-exec_all-clause-done
count_up-returns-in_err-exec_all-clause-done g t c =
    let x = c.args.name.now in
    let i = c.loop-i.i in
    let z = c.args.range.first +ℤ pos i in
    let n = c.args.range.count in
    let body = exec_all (block_of c.args.body.now) in
    let s = state_of c.loop-i.machine in
    let s1 = state_of c.set_integer.new.self in
    let s2 = state_of c.exec_all.new.machine in
    let o = g.W.Sink.taken c.loop-i.out in
    let o2 = g.W.Sink.taken c.exec_all.new.out in
    let r = c.from_residual-in_err-exec_all.result in
    let e = c.in_err-exec_all.field-0.0 in
    let rest = integers_from (c.args.range.first +ℤ pos (i + 1)) (n - (i + 1)) in
    let change : s1.variables ≡ with_value x (int z) s.variables = c.in_ok-set_integer.ensures.ok ∙ ap (λ y. with_value x (int y) s.variables) (counted_step c.args.range c.requires.range i c.loop-i-test.true) in
    c.loop-i.invariant.reached r s2 o2 (subst (λ ds. Executed r s s2 o o2 (over (λ k. sets x k body) ds)) (sym (integers_left c.args.range.first n i c.loop-i-test.true))
    (executed_in (sets x (int z) body) (λ u. over (λ k. sets x k body) rest) r e s s2 o o2 c.from_residual-in_err-exec_all.ensures.1
    (executed_sets x (int z) body (Err e) s s1 s2 o o2 c.in_ok-set_integer.ensures.store change c.in_err-exec_all.ensures.done)))

pub count_up-loop-i-preserved : goal.count_up-loop-i-preserved
count_up-loop-i-preserved g t c =
    let x = c.args.name.now in
    let i = c.loop-i.i in
    let z = c.args.range.first +ℤ pos i in
    let n = c.args.range.count in
    let body = exec_all (block_of c.args.body.now) in
    let s = state_of c.loop-i.machine in
    let s1 = state_of c.set_integer.new.self in
    let s2 = state_of c.exec_all.new.machine in
    let o = g.W.Sink.taken c.loop-i.out in
    let o2 = g.W.Sink.taken c.exec_all.new.out in
    let rest = integers_from (c.args.range.first +ℤ pos (i + 1)) (n - (i + 1)) in
    let inv = c.loop-i.invariant in
    let change : s1.variables ≡ with_value x (int z) s.variables = c.in_ok-set_integer.ensures.ok ∙ ap (λ y. with_value x (int y) s.variables) (counted_step c.args.range c.requires.range i c.loop-i-test.true) in
    let did = c.in_ok-exec_all.ensures.done in
    record {
      outside = did.parameters;
      reached = λ r s3 o3 h. inv.reached r s3 o3 (subst (λ ds. Executed r s s3 o o3 (over (λ k. sets x k body) ds)) (sym (integers_left c.args.range.first n i c.loop-i-test.true))
          (executed_then (sets x (int z) body) (λ u. over (λ k. sets x k body) rest) tt r s s2 s3 o o2 o3 (executed_sets x (int z) body (Ok tt) s s1 s2 o o2 c.in_ok-set_integer.ensures.store change did) h));
      later = omega (arith, inv.later, c.in_ok-exec_all.ensures.cause.later);
      sure = c.in_ok-exec_all.ensures.sure ∙ inv.sure;
    }

pub count_up-returns-clause-done : goal.count_up-returns-clause-done
count_up-returns-clause-done g t c =
    let s = state_of c.loop-i.machine in
    let o = g.W.Sink.taken c.loop-i.out in
    let body = exec_all (block_of c.args.body.now) in
    c.loop-i.invariant.reached (Ok tt) s o (subst (λ ds. Executed (Ok tt) s s o o (over (λ k. sets c.args.name.now k body) ds)) (sym (integers_over c.args.range.first c.args.range.count c.loop-i.i c.loop-i-test.false)) (executed_gives tt s o c.loop-i.invariant.outside))
