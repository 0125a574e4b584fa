-- Entries of an ascending list at any two places.
use Rattle.std.proofs.Common.{◌≡◌, ℕ, zero, suc, ◌+◌, ◌-◌, ◌<◌, ◌≤◌, List, length, get_or, ap, inl, inr, arith}
use Rattle.std.specs.List.Sorted.{IsStrictlyIncreasing}
use Rattle.std.proofs.lemmas.Bool.{cases_lt}

-- a later entry is greater
pub ascends : (l : List ℕ) → IsStrictlyIncreasing l → (i j : ℕ) → i < j → j < length l → get_or l i 0 < get_or l j 0
ascends l up i j less inside = from (j - 1 - i) i (omega arith)
  where
    from : (d i : ℕ) → i + d + 1 ≡ j → get_or l i 0 < get_or l j 0
    from zero i e =
        let h : i + 1 ≡ j = omega arith in
        let step : get_or l i 0 < get_or l (i + 1) 0 = up i (omega arith) in
        omega (arith, step, ap (λ k. get_or l k 0) h)
    from (suc d) i e =
        let step : get_or l i 0 < get_or l (i + 1) 0 = up i (omega arith) in
        omega (arith, step, from d (i + 1) (omega arith))

-- the entry at a place that is not before another is no less
pub ascends-le : (l : List ℕ) → IsStrictlyIncreasing l → (i j : ℕ) → i ≤ j → j < length l → get_or l i 0 ≤ get_or l j 0
ascends-le l up i j le inside = elim (cases_lt i j) [
  | inl less ↦ omega (arith, ascends l up i j less inside)
  | inr more ↦ let e : i ≡ j = omega arith in omega (arith, ap (λ k. get_or l k 0) e)
]
