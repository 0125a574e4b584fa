-- Vectors below another one: those of equal length are the same, a place where there is room may be raised, and all are listed.
use Rattle.std.proofs.Common.{◌≡◌, ◌≢◌, ℕ, zero, suc, ◌+◌, ◌<◌, ◌≤◌, List, [], ◌∷◌, length, get_or, replicate, sum, refl, sym, ap, subst, ◌∙◌, inl, inr, arith}
use Rattle.std.specs.Prelude.{◌↔◌, Contains}
use Rattle.std.proofs.lemmas.Bool.{cases_lt, cases_eq}
use Rattle.sg_defs.specs.Vectors.{plus, minus, IsBelow}
use Rattle.sg_defs.proofs.VectorLemmas.{length-plus}
use Rattle.sg_defs.proofs.ListLemmas.{contains-cases}
use Rattle.sg_nonunique.specs.Places.{unit}
use Rattle.sg_nonunique.proofs.SumLemmas.{zero_or_positive, sum-zeros, sum_positive, get_or-plus, sum-plus, plus-zeros, length-minus}
use Rattle.sg_nonunique.proofs.PlaceLemmas.{length-unit, unit-same, unit-other, sum-unit}
use Rattle.sg_nonunique.proofs.OrderLemmas.{plus-minus, sum-below}
use Rattle.sg_laws_finite.specs.Listing.{levels}
use Rattle.sg_laws_finite.proofs.ElementLemmas.{contains-nil, here}
use Rattle.sg_laws_finite.proofs.LevelLemmas.{from-levels, into-levels}

-- ---- zero, and not

pub positive-nonzero : (x : List ℕ) (k : ℕ) → 0 < sum x → x ≢ replicate k 0
positive-nonzero x k h e = omega (arith, h, ap sum e, sum-zeros k)

pub nonzero-positive : (x : List ℕ) (k : ℕ) → length x ≡ k → x ≢ replicate k 0 → 0 < sum x
nonzero-positive x k e n = elim (zero_or_positive x) [
  | inl none ↦ absurd (n (none ∙ ap (λ m. replicate m 0) e))
  | inr some ↦ sum_positive x some.0 some.1
]

-- ---- one below another

-- of equal length they are the same
pub below-same : (x y : List ℕ) → IsBelow x y → sum x ≡ sum y → x ≡ y
below-same x y b e =
    let l : length x ≡ length (minus y x) = b.0 ∙ sym (length-minus y x (sym b.0)) in
    elim (zero_or_positive (minus y x)) [
      | inl none ↦ sym (plus-zeros x) ∙ ap (λ n. plus x (replicate n 0)) l ∙ ap (plus x) (sym none) ∙ plus-minus x y b
      | inr some ↦ absurd (omega (arith, e, sum_positive (minus y x) some.0 some.1, sum-plus x (minus y x) l, ap sum (plus-minus x y b)))
    ]

pub below-less : (x y : List ℕ) → IsBelow x y → x ≢ y → sum x < sum y
below-less x y b n = elim (cases_lt (sum x) (sum y)) [
  | inl less ↦ less
  | inr more ↦ absurd (n (below-same x y b (omega (arith, more, sum-below x y b))))
]

-- one more at a place stays below where there is room
pub below-raised : (k : ℕ) (p s : List ℕ) (i : ℕ) → length p ≡ k → i < k → IsBelow p s → get_or p i 0 < get_or s i 0 → IsBelow (plus p (unit k i)) s
below-raised k p s i e l b room =
    let f : length p ≡ length (unit k i) = e ∙ sym (length-unit k i) in (
      length-plus p (unit k i) f ∙ b.0,
      (λ j. elim (cases_eq j i) [
        | inl same ↦ subst (λ n. get_or (plus p (unit k i)) n 0 ≤ get_or s n 0) (sym same) (omega (arith, room, get_or-plus p (unit k i) i f, unit-same k i l))
        | inr other ↦ omega (arith, b.1 j, get_or-plus p (unit k i) j f, unit-other k i j other)
      ]),
    )

-- a unit vector is below where its place is positive
pub unit-below : (k : ℕ) (s : List ℕ) (i : ℕ) → length s ≡ k → i < k → 0 < get_or s i 0 → IsBelow (unit k i) s
unit-below k s i e l h = (
  length-unit k i ∙ sym e,
  (λ j. elim (cases_eq j i) [
    | inl same ↦ subst (λ n. get_or (unit k i) n 0 ≤ get_or s n 0) (sym same) (omega (arith, h, unit-same k i l))
    | inr other ↦ omega (arith, unit-other k i j other)
  ]),
)

-- a vector below a unit vector that is not zero is that unit vector
pub unit-least : (k : ℕ) (s : List ℕ) (i : ℕ) → i < k → 0 < sum s → IsBelow s (unit k i) → s ≡ unit k i
unit-least k s i l h b = below-same s (unit k i) b (omega (arith, h, sum-below s (unit k i) b, sum-unit k i l))

-- below p raised at i, but with room there, is below p
pub below-unraised : (k : ℕ) (p s : List ℕ) (i : ℕ) → length p ≡ k → i < k → IsBelow s (plus p (unit k i)) → get_or s i 0 ≢ get_or (plus p (unit k i)) i 0 → IsBelow s p
below-unraised k p s i e l b room =
    let f : length p ≡ length (unit k i) = e ∙ sym (length-unit k i) in (
      b.0 ∙ length-plus p (unit k i) f,
      (λ j. elim (cases_eq j i) [
        | inl same ↦ subst (λ n. get_or s n 0 ≤ get_or p n 0) (sym same) (omega (arith, room, b.1 i, get_or-plus p (unit k i) i f, unit-same k i l))
        | inr other ↦ omega (arith, b.1 j, get_or-plus p (unit k i) j f, unit-other k i j other)
      ]),
    )

-- ---- all vectors below one

pub under : List ℕ → List (List ℕ)
under [] = [] ∷ []
under (n ∷ x) = levels (λ _. under x) (n + 1)

from-under : (x z : List ℕ) → Contains (under x) z → IsBelow z x
unfolding under
from-under [] z h = elim (contains-cases [] [] z h) [
  | inl e ↦ subst (λ v. IsBelow v []) e (refl, λ j. omega arith)
  | inr none ↦ absurd (contains-nil z none)
]
from-under (n ∷ x) z h =
    let p = from-levels (λ _. under x) (n + 1) z h in
    let b = from-under x p.1 p.4 in
    subst (λ v. IsBelow v (n ∷ x)) (sym p.3) (ap suc b.0, at p.0 p.1 p.2 b.1)
  where
    at : (c : ℕ) (v : List ℕ) → c < n + 1 → ((j : ℕ) → get_or v j 0 ≤ get_or x j 0) → (j : ℕ) → get_or (c ∷ v) j 0 ≤ get_or (n ∷ x) j 0
    at c v less b zero = omega arith
    at c v less b (suc j) = b j

into-under : (x z : List ℕ) → IsBelow z x → Contains (under x) z
unfolding under
into-under [] [] b = here [] []
into-under [] (c ∷ z) b = absurd (omega (arith, b.0))
into-under (n ∷ x) [] b = absurd (omega (arith, b.0))
into-under (n ∷ x) (c ∷ z) b =
    into-levels (λ _. under x) (n + 1) c z (omega (arith, b.1 0)) (into-under x z (omega (arith, b.0), λ j. b.1 (suc j)))

pub under-exactly : (x z : List ℕ) → Contains (under x) z ↔ IsBelow z x
under-exactly x z = (from-under x z, into-under x z)
