use Rattle.std.proofs.Common.{◌↔◌, subst, inl, inr, arith}
use Rattle.std.specs.Prelude.{IsTrue, slice_index}
use Rattle.std.proofs.lemmas.Bool.{cases_lt}
use Rattle.std.proofs.lemmas.List.{length_push}
use Rattle.sg_closure.specs.Differences.{IsShifted}
use Rattle.sg_closure.proofs.FitLemmas.{short-span}
use Rattle.sg_closure.proofs.MarkLemmas.{in-past, marks-push}
use Rattle.sg_closure.proofs.DifferenceLemmas.{shifted-past}
use Rattle.sg_closure.proofs.med.shifted_marks.Goals as goal

pub loop-n-preserved : goal.loop-n-preserved
loop-n-preserved c =
    let L = c.args.differences.now in
    let here = subst (λ m. IsTrue c.is_shifted.result ↔ IsShifted L m c.loop-n.n) c.apery.ensures.entries c.is_shifted.ensures in
    rw c.in_ok-push.ensures.items (record {
      long = omega (arith, length_push c.loop-n.marks.items c.is_shifted.result, c.loop-n.invariant.long);
      same = marks-push (IsShifted L (slice_index c.args.table.now 0)) c.loop-n.marks.items c.is_shifted.result c.loop-n.n c.loop-n.invariant.long c.loop-n.invariant.same here;
    })

pub returns-clause-same : goal.returns-clause-same
returns-clause-same c n = elim (cases_lt n c.loop-n.n) [
  | inl less ↦ c.loop-n.invariant.same n less
  | inr more ↦ (
    (λ p. shifted-past c.args.table.now c.args.differences.now c.span-n-end.result n c.apery.ensures.semigroup c.span-n-end.ensures c.requires.above
        (omega (arith, more, c.loop-n-test.false))),
    (λ q. in-past c.loop-n.marks.items n (omega (arith, more, c.loop-n.invariant.long))),
  )
]

pub returns-clause-short : goal.returns-clause-short
returns-clause-short c =
    omega (arith, c.loop-n.invariant.long, c.loop-n.auto.n-end, short-span c.args.table.now c.span-n-end.result c.requires.span c.span-n-end.ensures)

pub overflow_add-n-end : goal.overflow_add-n-end
overflow_add-n-end c = omega (arith, short-span c.args.table.now c.span-n-end.result c.requires.span c.span-n-end.ensures)

pub is_shifted-requires : goal.is_shifted-requires
is_shifted-requires c = omega (arith, c.loop-n-test.true, short-span c.args.table.now c.span-n-end.result c.requires.span c.span-n-end.ensures)
