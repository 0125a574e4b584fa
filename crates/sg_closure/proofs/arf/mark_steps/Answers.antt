use Rattle.std.proofs.Common.{◌≡◌, ℕ, ◌+◌, Bool, List, length, sym, subst, arith}
use Rattle.sg_closure.proofs.MarkLemmas.{in-true, out-false}
use Rattle.sg_closure.proofs.StepLemmas.{IsMarking, marking-begins, marking-passes, marking-steps, marking-ends}
use Rattle.sg_closure.proofs.arf.mark_steps.Goals as goal
use Rattle.sg_closure.proofs.arf.mark_steps.Goals.{then-marks-n, else-marks-n}

-- the same of what the variables hold after the branch
moved : (before marks now : List Bool) (last mid n : ℕ) → now ≡ marks → mid ≡ last → IsMarking before marks last n → IsMarking before now mid n
moved before marks now last mid n e f h = subst (λ x. IsMarking before x mid n) (sym e) (subst (λ x. IsMarking before marks x n) (sym f) h)

pub loop-n-preserved : goal.loop-n-preserved
loop-n-preserved c =
    let long : length c.loop-n.marks ≡ length c.args.marks.now = c.loop-n.auto.marks in
    elim c.if-marks-n.branch [
      | then-marks-n w ↦ moved c.args.marks.now w.mark.new.marks c.if-marks-n.marks c.loop-n.n c.if-marks-n.last (c.loop-n.n + 1) w.marks-is w.last-is
          (marking-steps c.args.marks.now c.loop-n.marks w.mark.new.marks c.loop-n.last c.loop-n.n c.loop-n.invariant
          (in-true c.loop-n.marks c.loop-n.n (omega (arith, c.loop-n-test.true, long)) w.if-marks-n.true) w.mark.ensures.length w.mark.ensures.marked)
      | else-marks-n w ↦ moved c.args.marks.now c.loop-n.marks c.if-marks-n.marks c.loop-n.last c.if-marks-n.last (c.loop-n.n + 1) w.marks-is w.last-is
          (marking-passes c.args.marks.now c.loop-n.marks c.loop-n.last c.loop-n.n c.loop-n.invariant
          (out-false c.loop-n.marks c.loop-n.n (omega (arith, c.loop-n-test.true, long)) w.if-marks-n.false))
    ]

pub loop-n-init : goal.loop-n-init
loop-n-init c = marking-begins c.args.marks.now c.requires.zero

pub returns-clause-steps : goal.returns-clause-steps
returns-clause-steps c =
    marking-ends c.args.marks.now c.loop-n.marks c.loop-n.last c.loop-n.n c.loop-n.invariant (omega (arith, c.loop-n-test.false, c.loop-n.auto.marks))
