-- The numbers of an ascending list that are at most the half of a number.
use Rattle.std.proofs.Common.{ℕ, ◌+◌, ◌-◌, ◌/◌, ◌<◌, ◌≤◌, List, length, get_or, ap, inl, inr, arith}
use Rattle.std.proofs.lemmas.Bool.{cases_eq}
use Rattle.std.proofs.lemmas.List.Kept.{AllPairs-from_increasing}
use Rattle.std.specs.List.Sorted.{IsStrictlyIncreasing}
use Rattle.sg_tables.proofs.PartLemmas.{more-than_half}

-- the numbers up to a place of an ascending list are at most the half of w, where that one is
at-most_half : (M : List ℕ) (w i : ℕ) → IsStrictlyIncreasing M → i < length M → get_or M i 0 + get_or M i 0 ≤ w → (k : ℕ) → k < i + 1 → get_or M k 0 + get_or M k 0 ≤ w
at-most_half M w i up inside half k l = elim (cases_eq k i) [
  | inl e ↦ let f = ap (λ j. get_or M j 0) e in omega (arith, f, half)
  | inr other ↦ omega (arith, half, AllPairs-from_increasing M up k i 0 (omega (arith, l, other)) inside)
]

-- where the middle one is more than the half
pub half-down : (M : List ℕ) (w low high : ℕ) → IsStrictlyIncreasing M → low < high → high ≤ length M → w / 2 < get_or M (low + (high - low) / 2) 0 →
    (k : ℕ) → low + (high - low) / 2 ≤ k → k < length M → w < get_or M k 0 + get_or M k 0
half-down M w low high up l inside more k m q = more-than_half M w (low + (high - low) / 2) up (omega arith) (omega (arith, more)) k m q

-- where it is not
pub half-up : (M : List ℕ) (w low high : ℕ) → IsStrictlyIncreasing M → low < high → high ≤ length M → get_or M (low + (high - low) / 2) 0 ≤ w / 2 →
    (k : ℕ) → k < low + (high - low) / 2 + 1 → get_or M k 0 + get_or M k 0 ≤ w
half-up M w low high up l inside less k m = at-most_half M w (low + (high - low) / 2) up (omega arith) (omega (arith, less)) k m
