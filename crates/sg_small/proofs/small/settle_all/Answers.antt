use Rattle.std.proofs.Common.{◌≡◌, ℕ, ◌+◌, ◌<◌, List, refl, subst, inl, inr, arith}
use Rattle.std.specs.Prelude.{◌⊎◌}
use Rattle.std.proofs.lemmas.Bool.{cases_lt}
use Rattle.sg_small.specs.Small.{IsClosedAt, IsSumAt}
use Rattle.sg_small.proofs.SmallLemmas.{small-closed}
use Rattle.sg_small.proofs.small.settle_all.Goals as goal

-- one entry more
done_more : (list : List ℕ) (n : ℕ) → ((i : ℕ) → 0 < i → i < n → IsClosedAt list i ⊎ IsSumAt list i) → IsClosedAt list n ⊎ IsSumAt list n → (i : ℕ) → 0 < i → i < n + 1 → IsClosedAt list i ⊎ IsSumAt list i
done_more list n before here i l m = elim (cases_lt i n) [
  | inl under ↦ before i l under
  | inr last ↦ let e : n ≡ i = omega arith in subst (λ k. IsClosedAt list k ⊎ IsSumAt list k) e here
]

pub loop-which-preserved : goal.loop-which-preserved
loop-which-preserved c = record {
  marks = c.settle.ensures.marks;
  done = done_more c.args.list.now c.loop-which.which c.loop-which.invariant.done (c.if-not-settle.ensures.settled refl);
}

pub returns-clause-closed : goal.returns-clause-closed
returns-clause-closed c = λ e. small-closed c.args.list.now c.requires.list (λ i l m. c.loop-which.invariant.done i l (omega (arith, m, c.loop-which-test.false)))
