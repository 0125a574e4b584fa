-- No element has a greater delta than the elements with two classes: no gap between its lengths is wider.
use Rattle.std.proofs.Common.{◌≡◌, ℕ, ◌+◌, ◌-◌, ◌<◌, ◌≤◌, List, length, sum, min, max, refl, subst, inl, inr, arith}
use Rattle.std.specs.Prelude.{◌⊎◌, Option, None, Some}
use Rattle.std.proofs.lemmas.Bool.{cases_lt}
use Rattle.sg_defs.specs.Vectors.{ListsDescending}
use Rattle.sg_nonunique.specs.Classes.{IsSameClass, HasTwoClasses}
use Rattle.sg_nonunique.specs.Deltas.{IsDelta, IsMaxDelta}
use Rattle.sg_nonunique.specs.Factorizations.{IsLengthIn}
use Rattle.sg_nonunique.specs.Places.{raise}
use Rattle.sg_nonunique.proofs.PlaceLemmas.{sum-raise}
use Rattle.sg_laws_finite.proofs.NumberLemmas.{least-number, greatest-below}
use Rattle.sg_laws_finite.proofs.SetLemmas.{length-decided}
use Rattle.sg_laws_families.specs.Bounds.{IsGreatestBettiDelta}
use Rattle.sg_laws_families.proofs.Families.{IsFamily}
use Rattle.sg_laws_families.proofs.ClassLemmas.{Crosses, class-induction, class-here}

-- behind each number from the lesser of the two lengths to below the greater, V has a length within D
abbrev pub IsFilled : (List ℕ → Type 0) → ℕ → List ℕ → List ℕ → Type 0
IsFilled V D x y = (k : ℕ) → min (sum x) (sum y) ≤ k → k < max (sum x) (sum y) → (l : ℕ) × IsLengthIn V l × (k < l) × (l ≤ k + D)

filled-then : (V : List ℕ → Type 0) (D : ℕ) (x y z : List ℕ) → IsFilled V D x y → IsFilled V D y z → IsFilled V D x z
filled-then V D x y z p q k low high = elim (cases_lt k (min (sum x) (sum y))) [
  | inl under ↦ q k (omega arith) (omega arith)
  | inr above ↦ elim (cases_lt k (max (sum x) (sum y))) [
    | inl less ↦ p k above less
    | inr over ↦ q k (omega arith) (omega arith)
  ]
]

-- both raised at a place
filled-raise : (V W : List ℕ → Type 0) (D i : ℕ) (x y : List ℕ) (k : ℕ) → ((z : List ℕ) → V z → length z ≡ k) → i < k → ((z : List ℕ) → V z → W (raise z i)) →
    V x → V y → IsFilled V D x y → IsFilled W D (raise x i) (raise y i)
filled-raise V W D i x y k places inside keep v w p j low high =
    let a = sum-raise x i (omega (arith, inside, places x v)) in
    let b = sum-raise y i (omega (arith, inside, places y w)) in
    let l = p (j - 1) (omega arith) (omega arith) in
    let z = l.1 in
    let e : sum (raise z.0 i) ≡ l.0 + 1 = omega (arith, sum-raise z.0 i (omega (arith, inside, places z.0 z.1)), z.2) in
    (l.0 + 1, (raise z.0 i, keep z.0 z.1, e), omega (arith, l.2), omega (arith, l.3))

-- where no delta of a listed set is above D, each gap is within D
filled-from_deltas : (V : List ℕ → Type 0) (l : List (List ℕ)) → ListsDescending V l → (D : ℕ) → ((d : ℕ) → IsDelta V d → d ≤ D) →
    (x y : List ℕ) → V x → V y → IsFilled V D x y
filled-from_deltas V l lists D bound x y v w k low high =
    let decide = length-decided V l lists in
    let is_x : IsLengthIn V (sum x) = (x, v, refl) in
    let is_y : IsLengthIn V (sum y) = (y, w, refl) in
    let before = greatest-below (IsLengthIn V) decide (k + 1) (elim (cases_lt k (sum x)) [
      | inr small ↦ (sum x, omega arith, is_x)
      | inl great ↦ (sum y, omega arith, is_y)
    ]) in
    let after = least-number (λ n. (k < n) × IsLengthIn V n) (λ n. both (cases_lt k n) (decide n)) (max (sum x) (sum y)) (elim (cases_lt (sum x) (sum y)) [
      | inl less ↦ (high, subst (IsLengthIn V) (let e : sum y ≡ max (sum x) (sum y) = omega arith in e) is_y)
      | inr more ↦ (high, subst (IsLengthIn V) (let e : sum x ≡ max (sum x) (sum y) = omega arith in e) is_x)
    ]) in
    let d = after.0 - before.0 in
    let e : after.0 ≡ before.0 + d = omega (arith, before.1, after.1.0) in
    let delta : IsDelta V d = record {
      positive = omega (arith, before.1, after.1.0);
      lower = before.0;
      is_lower = before.2;
      is_upper = subst (IsLengthIn V) e after.1.1;
      none_between = λ j under above h. elim (cases_lt k j) [
        | inl past ↦ omega (arith, after.2 j (past, h), above)
        | inr not_past ↦ omega (arith, before.3 j (omega arith) h, under)
      ];
    } in
    (after.0, after.1.1, after.1.0, omega (arith, bound d delta, before.1))
  where
    both : {P : Type 0} {j n : ℕ} → (j < n) ⊎ (n ≤ j) → P ⊎ ¬ P → ((j < n) × P) ⊎ ¬ ((j < n) × P)
    both (inl less) (inl p) = inl (less, p)
    both (inl less) (inr none) = inr (λ h. none h.1)
    both (inr more) d = inr (λ h. omega (arith, h.0))

-- where all gaps are within D, no delta is above it
deltas-from_filled : (V : List ℕ → Type 0) (D : ℕ) → ((x y : List ℕ) → V x → V y → IsFilled V D x y) → (d : ℕ) → IsDelta V d → d ≤ D
deltas-from_filled V D filled d h =
    let x = h.is_lower in
    let y = h.is_upper in
    let positive = h.positive in
    let l = filled x.0 y.0 x.1 y.1 h.lower (omega (arith, x.2)) (omega (arith, x.2, y.2)) in
    elim (cases_lt l.0 (h.lower + d)) [
      | inl less ↦ absurd (h.none_between l.0 l.2 less l.1)
      | inr more ↦ omega (arith, l.3, more)
    ]

module _ {I : Type 0} (F : I → List ℕ → Type 0) (size : I → ℕ) (k : ℕ) (family : IsFamily F size k) where
  pub deltas-bounded : (D : ℕ) → ((n : I) (d : ℕ) → HasTwoClasses (F n) → IsDelta (F n) d → d ≤ D) → (n : I) (d : ℕ) → IsDelta (F n) d → d ≤ D
  deltas-bounded D bound n = deltas-from_filled (F n) D
      (class-induction F size k family (λ m. IsFilled (F m) D) (λ m x f j low high. absurd (omega arith)) (λ m. filled-then (F m) D)
      (λ m l i inside keep x y f g p. filled-raise (F m) (F l) D i x y k (family.places m) inside keep f g p) cross n)
    where
      cross : (n : I) (x y : List ℕ) → F n x → F n y → ¬ IsSameClass (F n) x y → Crosses (F n) (IsFilled (F n) D) x y
      cross n x y p q apart = (
        x,
        y,
        class-here (F n) x p,
        filled-from_deltas (F n) (family.listed n).0 (family.listed n).1 D (λ d h. bound n d (x, y, p, q, apart) h) x y p q,
        class-here (F n) y q,
      )

  -- the greatest delta over all elements is that of elements with two classes
  pub max_delta-from_betti : (r : Option ℕ) → IsGreatestBettiDelta F r → IsMaxDelta F r
  max_delta-from_betti None h = record {
    none = λ d s. let l = deltas-bounded 0 (λ n d two delta. absurd (h.none n d two delta)) s.0 d s.1 in omega (arith, l, s.1.positive);
    some = h.some;
    greatest = tt;
  }
  max_delta-from_betti (Some D) h = record { none = tt; some = h.some; greatest = λ d s. deltas-bounded D h.greatest s.0 d s.1 }
