use Rattle.sg_tree.proofs.stmt.Stmt.TheLaws.{the_size}
use Rattle.sg_value.specs.Known.{named}
use Rattle.sg_eval.proofs.Sizes.{block_size, arms_size}
use Rattle.std.proofs.Common.{◌≡◌, ◌≤◌, ◌+◌, ◌-◌, ◌*◌, ℕ, pos, ◌+ℤ◌, List, [], Bool, Option, Result, drop}
use Rattle.sg_value.specs.Plain.{AllKnownIn, plain_of_all}
use Rattle.sg_tree.specs.TreeView.{block_of, arms_of}
use Rattle.sg_eval.specs.Machine.{state_of}
use Rattle.sg_meaning.specs.Process.{sets}
use Rattle.sg_meaning.specs.Entries.{integers_from}
use Rattle.sg_eval.specs.State.{State}
use Rattle.sg_meaning.specs.Statements.{exec_all, over}
use Rattle.sg_eval.specs.Steps.{Executed, arm_done}
use Rattle.sg_eval.specs.declared.step_fault.StepFault.{StepFault}
use Rattle.sg_eval.proofs.exec.+exec.Given as goal

-- whatever comes of the statements that are left comes of all
abbrev pub invariant-exec_all-loop-stmt : goal.invariant-exec_all-loop-stmt
invariant-exec_all-loop-stmt g l =
    let sink = g.W.Sink in
    record {
      outside : (state_of l.machine).parameters ≡ [];
      reached : (r : Result (Unit {0}) StepFault) (s : State) (o : Option (List ℕ)) → Executed r (state_of l.machine) s (sink.taken l.out) o (exec_all (block_of (drop l.stmt-index l.stmts)))
          → Executed r (state_of l.fn.machine) s (sink.taken l.fn.out) o (exec_all (block_of l.stmts));
      later : sink.faults l.fn.out ≤ sink.faults l.out;
      sure : sink.sure l.out ≡ sink.sure l.fn.out;
    }

-- whatever comes of the arms that are left comes of all
abbrev pub invariant-exec_arms-loop-test : goal.invariant-exec_arms-loop-test
invariant-exec_arms-loop-test g l =
    let sink = g.W.Sink in
    record {
      outside : (state_of l.machine).parameters ≡ [];
      reached : (r : Result Bool StepFault) (s : State) (o : Option (List ℕ)) → Executed r (state_of l.machine) s (sink.taken l.out) o (arm_done (arms_of (drop l.test-index l.arms)))
          → Executed r (state_of l.fn.machine) s (sink.taken l.fn.out) o (arm_done (arms_of l.arms));
      later : sink.faults l.fn.out ≤ sink.faults l.out;
      sure : sink.sure l.out ≡ sink.sure l.fn.out;
    }

-- whatever comes of the entries that are left comes of all
abbrev pub invariant-repeat-loop-entry : goal.invariant-repeat-loop-entry
invariant-repeat-loop-entry g l =
    let sink = g.W.Sink in
    record {
      outside : (state_of l.machine).parameters ≡ [];
      known : AllKnownIn (named (state_of l.machine).names) l.entries;
      reached : (r : Result (Unit {0}) StepFault) (s : State) (o : Option (List ℕ))
          → Executed r (state_of l.machine) s (sink.taken l.out) o (over (λ e. sets l.name e (exec_all (block_of l.body))) (plain_of_all (named (state_of l.machine).names) (drop l.entry-index l.entries)))
          → Executed r (state_of l.fn.machine) s (sink.taken l.fn.out) o (over (λ e. sets l.name e (exec_all (block_of l.body))) (plain_of_all (named (state_of l.fn.machine).names) l.entries));
      later : sink.faults l.fn.out ≤ sink.faults l.out;
      sure : sink.sure l.out ≡ sink.sure l.fn.out;
    }

-- whatever comes of the integers that are left comes of all
abbrev pub invariant-count_up-loop-i : goal.invariant-count_up-loop-i
invariant-count_up-loop-i g l =
    let sink = g.W.Sink in
    record {
      outside : (state_of l.machine).parameters ≡ [];
      reached : (r : Result (Unit {0}) StepFault) (s : State) (o : Option (List ℕ))
          → Executed r (state_of l.machine) s (sink.taken l.out) o (over (λ e. sets l.name e (exec_all (block_of l.body))) (integers_from (l.range.first +ℤ pos l.i) (l.range.count - l.i)))
          → Executed r (state_of l.fn.machine) s (sink.taken l.fn.out) o (over (λ e. sets l.name e (exec_all (block_of l.body))) (integers_from l.range.first l.range.count));
      later : sink.faults l.fn.out ≤ sink.faults l.out;
      sure : sink.sure l.out ≡ sink.sure l.fn.out;
    }

-- the size of the tree that is left, and which call comes first over one of this size
abbrev pub decreases-exec : goal.decreases-exec
decreases-exec g l = 3 * the_size l.stmt.now

abbrev pub decreases-exec_all : goal.decreases-exec_all
decreases-exec_all g l = 3 * block_size l.stmts.now + 1

abbrev pub decreases-exec_arms : goal.decreases-exec_arms
decreases-exec_arms g l = 3 * arms_size l.arms.now + 2

abbrev pub decreases-repeat : goal.decreases-repeat
decreases-repeat g l = 3 * block_size l.body.now + 2

abbrev pub decreases-count_up : goal.decreases-count_up
decreases-count_up g l = 3 * block_size l.body.now + 2
