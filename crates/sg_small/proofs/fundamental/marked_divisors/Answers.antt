use Rattle.std.proofs.Common.{arith}
use Rattle.sg_small.specs.Fundamental.{IsDivisor}
use Rattle.sg_small.proofs.FundamentalLemmas.{divisor-below, not_true}
use Rattle.sg_classes.proofs.ListingLemmas.{lists-skip, lists-push, lists-all}
use Rattle.sg_small.proofs.fundamental.marked_divisors.Goals as goal
use Rattle.sg_small.proofs.fundamental.marked_divisors.Goals.{then-has_marked_multiple+in_ok-push, else-has_marked_multiple}

pub loop-divisor-preserved : goal.loop-divisor-preserved
loop-divisor-preserved c =
    let P = IsDivisor c.args.marks.now in
    let list = c.loop-divisor.divisors.items in
    let d = c.loop-divisor.divisor in
    elim c.if-has_marked_multiple.branch [
      | then-has_marked_multiple+in_ok-push w ↦
          rw (w.divisors-is, w.in_ok-push.ensures.items) (lists-push P d list (omega (arith, c.loop-divisor.auto.divisor), c.has_marked_multiple.ensures.0 w.if-has_marked_multiple.true) c.loop-divisor.invariant)
      | else-has_marked_multiple w ↦
          rw w.divisors-is (lists-skip P d list (λ p. not_true c.has_marked_multiple.result w.if-has_marked_multiple.false (c.has_marked_multiple.ensures.1 p.1)) c.loop-divisor.invariant)
    ]

pub returns : goal.returns
returns c =
    let marks = c.args.marks.now in
    lists-all (IsDivisor marks) c.loop-divisor.divisor c.loop-divisor.divisors.items
    (λ x. divisor-below marks c.loop-divisor.divisor x c.loop-divisor-test.false) c.loop-divisor.invariant
