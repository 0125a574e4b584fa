-- Blocks and arms, one after the other.
use Rattle.std.proofs.Common.{◌≡◌, ◌+◌, ◌-◌, ◌<◌, pos, ◌+ℤ◌, ◌≤◌, Ok, Err, [], true, false, Bool, drop, refl, ap, sym, ◌∙◌, subst, arith}
use Rattle.sg_value.specs.Known.{named}
use Rattle.std.specs.Prelude.{if◌then◌else◌}
use Rattle.std.proofs.lemmas.List.{drop_all}
use Rattle.sg_value.specs.Plain.{plain, plain_of_all}
use Rattle.sg_store.specs.Interned.{Keeps}
use Rattle.sg_tree.specs.TreeView.{tree_of, code_of, block_of, arms_of}
use Rattle.sg_tree.specs.declared.stmt.Stmt.TheVariants as stmt
use Rattle.sg_tree.proofs.StatementLevels.{view-Empty, view-Quit, view-Assign, view-If, view-For, view-Do}
use Rattle.sg_tree.proofs.stmt.Stmt.TheLaws.{the_size}
use Rattle.sg_eval.specs.Machine.{state_of}
use Rattle.sg_value.specs.Data.{int}
use Rattle.sg_eval.specs.Outcomes.{Evaluates, plain_items}
use Rattle.sg_meaning.specs.Entries.{integers_from}
use Rattle.sg_eval.specs.Ranges.{entries_in, are_known}
use Rattle.sg_eval.proofs.Ranged.{integers_left, integers_all, integers_over, counted_step}
use Rattle.sg_meaning.specs.Vars.{with_value}
use Rattle.sg_meaning.specs.Process.{gives, sets, ◌>>=◌}
use Rattle.sg_meaning.specs.Statements.{exec, exec_all, over}
use Rattle.sg_eval.specs.Steps.{Executed, arm_done, held, listed_of}
use Rattle.sg_eval.specs.Truths.{itself, no_semigroup}
use Rattle.sg_eval.proofs.Blocks.{block_of-drop, arms_of-drop, arm_step, choose_step, each_step}
use Rattle.sg_eval.proofs.Evaluating.{keeps_all, all_known_later, plain_of_all_later}
use Rattle.sg_eval.proofs.Executing.{at_top, executed_as, executed_then, executed_in, executed_value, executed_exit, executed_memory, executed_gives, executed_sets}
use Rattle.sg_eval.proofs.FoldLoop.{known_at, known-drop, plain_of_all-drop}
use Rattle.sg_eval.proofs.Later.{copy_known, copy_plain}
use Rattle.sg_eval.proofs.Sizes.{block_size, arms_size, size-arms, size-other, statement-at, arm-at}
use Rattle.sg_eval.proofs.exec.+exec.Goals as goal

pub exec_all-loop-stmt-init : goal.exec_all-loop-stmt-init
exec_all-loop-stmt-init g t c = record { outside = c.requires; reached = λ r s o h. h; later = omega arith; sure = refl }

pub exec_all-exec-requires : goal.exec_all-exec-requires
exec_all-exec-requires g t c κs within =
    let small : the_size c.stmt-item.result ≤ block_size c.args.stmts.now = statement-at c.args.stmts.now c.loop-stmt.stmt-index c.stmt-item.result c.loop-stmt-test.true c.stmt-item.is in
    (omega (arith, small), (within, c.loop-stmt.invariant.outside))

pub exec_all-returns-in_err-exec-clause-done : goal.exec_all-returns-in_err-exec-clause-done
exec_all-returns-in_err-exec-clause-done g t c =
    let stmts = c.args.stmts.now in
    let i = c.loop-stmt.stmt-index in
    let k = c.stmt-item.result in
    let s = state_of c.loop-stmt.machine in
    let s1 = state_of c.exec.new.machine in
    let o = g.W.Sink.taken c.loop-stmt.out in
    let o1 = g.W.Sink.taken c.exec.new.out in
    let r = c.from_residual.result in
    c.loop-stmt.invariant.reached r s1 o1 (subst (λ b. Executed r s s1 o o1 (exec_all b)) (sym (block_of-drop stmts i k c.loop-stmt-test.true c.stmt-item.is))
    (executed_in (exec (code_of k)) (λ u. exec_all (block_of (drop (i + 1) stmts))) r c.in_err-exec.field-0.0 s s1 o o1 c.from_residual.ensures.1 c.in_err-exec.ensures.done))

pub exec_all-loop-stmt-preserved : goal.exec_all-loop-stmt-preserved
exec_all-loop-stmt-preserved g t c =
    let stmts = c.args.stmts.now in
    let i = c.loop-stmt.stmt-index in
    let k = c.stmt-item.result in
    let s = state_of c.loop-stmt.machine in
    let s1 = state_of c.exec.new.machine in
    let o = g.W.Sink.taken c.loop-stmt.out in
    let o1 = g.W.Sink.taken c.exec.new.out in
    let did = c.in_ok-exec.ensures.done in
    record {
      outside = did.parameters;
      reached = λ r s2 o2 h. c.loop-stmt.invariant.reached r s2 o2 (subst (λ b. Executed r s s2 o o2 (exec_all b)) (sym (block_of-drop stmts i k c.loop-stmt-test.true c.stmt-item.is))
          (executed_then (exec (code_of k)) (λ u. exec_all (block_of (drop (i + 1) stmts))) tt r s s1 s2 o o1 o2 did h));
      later = omega (arith, c.loop-stmt.invariant.later, c.in_ok-exec.ensures.cause.later);
      sure = c.in_ok-exec.ensures.sure ∙ c.loop-stmt.invariant.sure;
    }

pub exec_all-returns-clause-done : goal.exec_all-returns-clause-done
exec_all-returns-clause-done g t c =
    let s = state_of c.loop-stmt.machine in
    let o = g.W.Sink.taken c.loop-stmt.out in
    c.loop-stmt.invariant.reached (Ok tt) s o (subst (λ ss. Executed (Ok tt) s s o o (exec_all (block_of ss))) (sym (drop_all c.loop-stmt.stmt-index c.args.stmts.now c.loop-stmt-test.false)) (executed_gives tt s o c.loop-stmt.invariant.outside))

pub exec_arms-loop-test-init : goal.exec_arms-loop-test-init
exec_arms-loop-test-init g t c = record { outside = c.requires; reached = λ r s o h. h; later = omega arith; sure = refl }

pub exec_arms-exec_all-requires : goal.exec_arms-exec_all-requires
exec_arms-exec_all-requires g t c κs within =
    let a = c.loop-test-item.result in
    let arms = c.args.arms.now in
    let small : block_size a.1.items ≤ arms_size arms = arm-at arms c.loop-test.test-index a c.loop-test-test.true c.loop-test-item.is in
    let seen : block_size c.deref.result.now ≡ block_size a.1.items = ap block_size c.deref.ensures.value in
    (omega (arith, small, seen), (within, c.in_ok-holds.ensures.parameters ∙ c.loop-test.invariant.outside))

pub exec_arms-returns-in_err-holds-clause-done : goal.exec_arms-returns-in_err-holds-clause-done
exec_arms-returns-in_err-holds-clause-done g t c =
    let arms = c.args.arms.now in
    let i = c.loop-test.test-index in
    let a = c.loop-test-item.result in
    let test = tree_of a.0 in
    let body = block_of a.1.items in
    let others = arms_of (drop (i + 1) arms) in
    let s = state_of c.loop-test.machine in
    let s1 = state_of c.holds.new.machine in
    let o = g.W.Sink.taken c.loop-test.out in
    let r = c.from_residual.result in
    let rest = λ (b : Bool). if b then exec_all body >>= (λ u. gives true) else arm_done others in
    c.loop-test.invariant.reached r s1 o (subst (λ k. Executed r s s1 o o (arm_done k)) (sym (arms_of-drop arms i a c.loop-test-test.true c.loop-test-item.is))
    (executed_as (held [] test >>= rest) _ r s s1 o o (arm_step test body others)
    (executed_exit itself no_semigroup (held [] test) rest r _ s s1 o c.from_residual.ensures.1 (at_top itself no_semigroup _ s s1 (λ ps. held ps test) c.loop-test.invariant.outside c.in_err-holds.ensures))))

pub exec_arms-returns-in_err-exec_all-clause-done : goal.exec_arms-returns-in_err-exec_all-clause-done
exec_arms-returns-in_err-exec_all-clause-done g t c =
    let arms = c.args.arms.now in
    let i = c.loop-test.test-index in
    let a = c.loop-test-item.result in
    let test = tree_of a.0 in
    let body = block_of a.1.items in
    let others = arms_of (drop (i + 1) arms) in
    let s = state_of c.loop-test.machine in
    let s1 = state_of c.holds.new.machine in
    let s2 = state_of c.exec_all.new.machine in
    let o = g.W.Sink.taken c.loop-test.out in
    let o2 = g.W.Sink.taken c.exec_all.new.out in
    let r = c.from_residual-in_err-exec_all.result in
    let e = c.in_err-exec_all.field-0.0 in
    let rest = λ (b : Bool). if b then exec_all body >>= (λ u. gives true) else arm_done others in
    let holds = subst (λ b. Evaluates itself no_semigroup (Ok b) s s1 (λ names. held s.parameters test)) c.if-branch.true c.in_ok-holds.ensures in
    let did = subst (λ ss. Executed {A = Unit {0}} (Err e) s1 s2 o o2 (exec_all (block_of ss))) c.deref.ensures.value c.in_err-exec_all.ensures.done in
    c.loop-test.invariant.reached r s2 o2 (subst (λ k. Executed r s s2 o o2 (arm_done k)) (sym (arms_of-drop arms i a c.loop-test-test.true c.loop-test-item.is))
    (executed_as (held [] test >>= rest) _ r s s2 o o2 (arm_step test body others)
    (executed_value itself no_semigroup (held [] test) rest true r s s1 s2 o o2 (at_top itself no_semigroup (Ok true) s s1 (λ ps. held ps test) c.loop-test.invariant.outside holds)
    (executed_in (exec_all body) (λ u. gives true) r e s1 s2 o o2 c.from_residual-in_err-exec_all.ensures.1 did))))

pub exec_arms-returns-then-branch-clause-done : goal.exec_arms-returns-then-branch-clause-done
exec_arms-returns-then-branch-clause-done g t c =
    let arms = c.args.arms.now in
    let i = c.loop-test.test-index in
    let a = c.loop-test-item.result in
    let test = tree_of a.0 in
    let body = block_of a.1.items in
    let others = arms_of (drop (i + 1) arms) in
    let s = state_of c.loop-test.machine in
    let s1 = state_of c.holds.new.machine in
    let s2 = state_of c.exec_all.new.machine in
    let o = g.W.Sink.taken c.loop-test.out in
    let o2 = g.W.Sink.taken c.exec_all.new.out in
    let r = Ok true in
    let rest = λ (b : Bool). if b then exec_all body >>= (λ u. gives true) else arm_done others in
    let holds = subst (λ b. Evaluates itself no_semigroup (Ok b) s s1 (λ names. held s.parameters test)) c.if-branch.true c.in_ok-holds.ensures in
    let did = subst (λ ss. Executed (Ok tt) s1 s2 o o2 (exec_all (block_of ss))) c.deref.ensures.value c.in_ok-exec_all.ensures.done in
    c.loop-test.invariant.reached r s2 o2 (subst (λ k. Executed r s s2 o o2 (arm_done k)) (sym (arms_of-drop arms i a c.loop-test-test.true c.loop-test-item.is))
    (executed_as (held [] test >>= rest) _ r s s2 o o2 (arm_step test body others)
    (executed_value itself no_semigroup (held [] test) rest true r s s1 s2 o o2 (at_top itself no_semigroup (Ok true) s s1 (λ ps. held ps test) c.loop-test.invariant.outside holds)
    (executed_then (exec_all body) (λ u. gives true) tt r s1 s2 s2 o o2 o2 did (executed_gives true s2 o2 did.parameters)))))

pub exec_arms-loop-test-preserved : goal.exec_arms-loop-test-preserved
exec_arms-loop-test-preserved g t c =
    let arms = c.args.arms.now in
    let i = c.loop-test.test-index in
    let a = c.loop-test-item.result in
    let test = tree_of a.0 in
    let body = block_of a.1.items in
    let others = arms_of (drop (i + 1) arms) in
    let s = state_of c.loop-test.machine in
    let s1 = state_of c.holds.new.machine in
    let o = g.W.Sink.taken c.loop-test.out in
    let rest = λ (b : Bool). if b then exec_all body >>= (λ u. gives true) else arm_done others in
    let holds = subst (λ b. Evaluates itself no_semigroup (Ok b) s s1 (λ names. held s.parameters test)) c.if-branch.false c.in_ok-holds.ensures in
    record {
      outside = holds.parameters ∙ c.loop-test.invariant.outside;
      reached = λ r s2 o2 h. c.loop-test.invariant.reached r s2 o2 (subst (λ k. Executed r s s2 o o2 (arm_done k)) (sym (arms_of-drop arms i a c.loop-test-test.true c.loop-test-item.is))
          (executed_as (held [] test >>= rest) _ r s s2 o o2 (arm_step test body others)
          (executed_value itself no_semigroup (held [] test) rest false r s s1 s2 o o2 (at_top itself no_semigroup (Ok false) s s1 (λ ps. held ps test) c.loop-test.invariant.outside holds) h)));
      later = c.loop-test.invariant.later;
      sure = c.loop-test.invariant.sure;
    }

pub exec_arms-returns-clause-done : goal.exec_arms-returns-clause-done
exec_arms-returns-clause-done g t c =
    let s = state_of c.loop-test.machine in
    let o = g.W.Sink.taken c.loop-test.out in
    c.loop-test.invariant.reached (Ok false) s o (subst (λ gs. Executed (Ok false) s s o o (arm_done (arms_of gs))) (sym (drop_all c.loop-test.test-index c.args.arms.now c.loop-test-test.false)) (executed_gives false s o c.loop-test.invariant.outside))
