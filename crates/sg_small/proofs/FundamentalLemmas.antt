-- The divisors of the entries of a list, by marks.
use Rattle.std.proofs.Common.{◌≡◌, ℕ, ◌+◌, ◌*◌, ◌/◌, ◌<◌, ◌≤◌, ◌↔◌, Bool, true, false, List, length, get_or, sym, ap, subst, inl, inr, arith}
use Rattle.std.specs.Prelude.{Contains}
use Rattle.std.specs.Int.{◌∣◌}
use Rattle.std.proofs.lemmas.Bool.{cases_lt, cases_eq}
use Rattle.std.proofs.lemmas.List.{get_or_past}
use Rattle.std.proofs.lemmas.Nat.Gcd.{le_of_dvd}
use Rattle.std.proofs.Math.Nat.{div-mul_cancel, le-div_iff_mul-le, eq-zero_of_zero-dvd}
use Rattle.sg_defs.specs.Listings.{Lists}
use Rattle.sg_classes.proofs.GeneratorLemmas.{contains-place, place-contains}
use Rattle.sg_small.specs.Fundamental.{DividesAnEntry, HasMarkedMultiple, IsDivisor, IsMarked}

-- a test that is not true
pub not_true : (b : Bool) → b ≡ false → b ≡ true → ⊥
not_true true e f = cc
not_true false e f = cc

-- a mark stands within the table
marked-below : (marks : List Bool) (x : ℕ) → IsMarked marks x → x < length marks
marked-below marks x h = elim (cases_lt x (length marks)) [
  | inl under ↦ under
  | inr past ↦ absurd (not_true (get_or marks x false) (get_or_past marks x false past) h)
]

-- a marked multiple is a factor's
pub no-marked_multiple : (marks : List Bool) (d n : ℕ) → 0 < d → length marks / d + 1 ≤ n → ((j : ℕ) → 0 < j → j < n → IsMarked marks (j * d) → ⊥) → HasMarkedMultiple marks d → ⊥
no-marked_multiple marks d n positive far none h =
    let x = h.0 in
    let j = x / d in
    let whole : j * d ≡ x = div-mul_cancel d h.2 in
    let inside : x < length marks = marked-below marks x h.3 in
    let small : j ≤ length marks / d = (le-div_iff_mul-le positive).1 (omega (arith, whole, inside)) in
    elim (cases_eq j 0) [
      | inl e ↦ let f : j * d ≡ 0 * d = ap (λ k. k * d) e in absurd (omega (arith, whole, f, h.1))
      | inr other ↦ none j (omega (arith, other)) (omega (arith, small, far)) (subst (IsMarked marks) (sym whole) h.3)
    ]

-- a divisor is no greater than a marked number
pub divisor-below : (marks : List Bool) (n x : ℕ) → length marks ≤ n → IsDivisor marks x → x < n
divisor-below marks n x l h =
    let p = h.1 in
    omega (arith, le_of_dvd p.1 p.2, marked-below marks p.0 p.3, l)

module _ (list : List ℕ) (positive : Contains list 0 → ⊥) where
  entry-positive : (k : ℕ) → k < length list → 0 < get_or list k 0
  entry-positive k l = elim (cases_eq (get_or list k 0) 0) [
    | inl e ↦ absurd (positive (subst (Contains list) e (place-contains list k l)))
    | inr other ↦ omega (arith, other)
  ]

  -- 0 divides no entry
  pub zero-divides : DividesAnEntry list 0 → ⊥
  zero-divides h = omega (arith, eq-zero_of_zero-dvd h.2, entry-positive h.0 h.1)

  -- the numbers with a marked multiple are those that divide an entry
  module _ (marks : List Bool) (same : (x : ℕ) → IsMarked marks x ↔ Contains list x) where
    there : (n : ℕ) → IsDivisor marks n → DividesAnEntry list n
    there n h =
        let q = h.1 in
        let p = contains-place list q.0 ((same q.0).0 q.3) in
        (p.0, p.1, subst (λ x. n ∣ x) (sym p.2) q.2)

    back : (n : ℕ) → DividesAnEntry list n → IsDivisor marks n
    back n h = elim (cases_eq n 0) [
      | inl e ↦ absurd (zero-divides (subst (DividesAnEntry list) e h))
      | inr other ↦ (omega (arith, other), (get_or list h.0 0, entry-positive h.0 h.1, h.2, (same (get_or list h.0 0)).1 (place-contains list h.0 h.1)))
    ]

    pub lists-divisors : (l : List ℕ) → Lists (IsDivisor marks) l → Lists (DividesAnEntry list) l
    lists-divisors l h = record {
      ascending = h.ascending;
      exactly = λ n. ((λ c. there n ((h.exactly n).0 c)), (λ p. (h.exactly n).1 (back n p)));
    }
