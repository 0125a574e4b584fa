-- The values of the canonical relations are the Betti elements, and none of these is past the span.
use Rattle.std.proofs.Common.{◌≡◌, ℕ, ◌+◌, ◌-◌, ◌%◌, ◌<◌, ◌≤◌, List, length, get_or, refl, sym, subst, inl, inr, arith}
use Rattle.std.specs.Prelude.{◌⊎◌, ◌↔◌, ℤ, pos, negsuc, ◌+ℤ◌, All, Contains}
use Rattle.std.specs.List.Sorted.{IsStrictlyIncreasing}
use Rattle.std.proofs.lemmas.Bool.{cases_lt}
use Rattle.std.proofs.lemmas.Int.{ints}
use Rattle.std.proofs.lemmas.List.{get_or_default}
use Rattle.sg_defs.specs.Apery.{IsAperyEntry}
use Rattle.sg_defs.specs.Invariants.{IsFrobenius}
use Rattle.sg_defs.specs.Membership.{IsFactorization}
use Rattle.sg_nonunique.specs.Classes.{IsSameClass, HasTwoClasses}
use Rattle.sg_nonunique.specs.Presentations.{Relation, IsCanonical}
use Rattle.sg_classes.specs.Fit.{IsSpan}
use Rattle.sg_laws_finite.specs.Listing.{all_factorizations}
use Rattle.sg_laws_finite.proofs.FactorizationLemmas.{factorizations-listed}
use Rattle.sg_laws_finite.proofs.SetLemmas.{class-decided}
use Rattle.sg_laws_families.proofs.BettiLemmas.{betti-candidate}
use Rattle.sg_laws_families.proofs.CanonicalLemmas.{root-exists, top-exists, greatest-of_class}
use Rattle.sg_laws_families.proofs.ClassLemmas.{class-start, class-then, class-back}
use Rattle.sg_laws_families.proofs.Families.{numbers-family}
use Rattle.sg_factor.proofs.AscendingLemmas.{ascends-le}
use Rattle.sg_degrees.specs.Values.{IsValueOf}

module _ (G : List ℕ) (positive : All (λ g. 1 ≤ g) G) where
  -- where there are two classes, each vector has another than its own
  pub other-class : (n : ℕ) (x : List ℕ) → HasTwoClasses (IsFactorization G n) → IsFactorization G n x →
      (y : List ℕ) × IsFactorization G n y × (IsSameClass (IsFactorization G n) x y → ⊥)
  other-class n x h p = elim (class-decided (IsFactorization G n) (all_factorizations G n) (factorizations-listed G n positive) x h.0) [
    | inr apart ↦ (h.0, h.2, apart)
    | inl same ↦ (h.1, h.3, λ j. h.4 (class-then (IsFactorization G n) h.0 x h.1 (class-back (IsFactorization G n) x h.0 same) j))
  ]

  -- the values of the canonical relations are the elements with two classes
  pub values-betti : (P : List (Relation ℕ)) → IsCanonical (◌<◌) (IsFactorization G) P → (n : ℕ) → IsValueOf P n ↔ HasTwoClasses (IsFactorization G n)
  values-betti P c n = (
    (λ v.
        let r = v.0 in
        let k = c.canonical r v.1 in
        let two : HasTwoClasses (IsFactorization G r.value) = (r.left, r.right, k.left.member, class-start (IsFactorization G r.value) r.right r.right k.right.member, k.apart) in
        subst (λ m. HasTwoClasses (IsFactorization G m)) v.2 two),
    (λ h.
        let family = numbers-family G positive in
        let root = root-exists (IsFactorization G) (λ m. m) (length G) family n h.0 h.2 in
        let other = other-class n root.0 h root.1.member in
        let top = top-exists (IsFactorization G) (λ m. m) (length G) family n other.0 other.1 in
        let r : Relation ℕ = record { value = n; left = root.0; right = top.0 } in (
          r,
          c.whole r (record {
            left = root.1;
            right = greatest-of_class (IsFactorization G n) other.0 top.0 top.1.member top.1;
            apart = λ s. other.2 (class-then (IsFactorization G n) root.0 top.0 other.0 s (class-back (IsFactorization G n) other.0 top.0 top.1.member));
          }),
          refl,
        )),
  )

-- so are these values in a list
pub listed-values : (G : List ℕ) → All (λ g. 1 ≤ g) G → (P : List (Relation ℕ)) (found values : List ℕ) → IsCanonical (◌<◌) (IsFactorization G) P → ((n : ℕ) → Contains found n ↔ IsValueOf P n) → values ≡ found →
    (n : ℕ) → Contains values n ↔ HasTwoClasses (IsFactorization G n)
listed-values G positive P found values c listed e n = (
  (λ h. (values-betti G positive P c n).0 ((listed n).0 (subst (λ l. Contains l n) e h))),
  (λ h. subst (λ l. Contains l n) (sym e) ((listed n).1 ((values-betti G positive P c n).1 h))),
)

-- each of them has two classes
pub all-betti : (G values : List ℕ) → ((n : ℕ) → Contains values n ↔ HasTwoClasses (IsFactorization G n)) → All (λ n. HasTwoClasses (IsFactorization G n)) values
all-betti G values betti = λ k d l. (betti (get_or values k d)).0 (k, l, get_or_default values k (get_or values k d) d l)

-- an Apery element and the last generator together are not past the span
entry-within : (G : List ℕ) (f : ℤ) (m i w s last : ℕ) → IsFrobenius G f → IsAperyEntry G m i w → pos s ≡ ((f +ℤ pos m) +ℤ pos last) → w + last ≤ s
entry-within G f m i w s last h e is = elim (cases_lt s (w + last)) [
  | inr within ↦ within
  | inl past ↦ elim (cases_lt w m) [
    | inl small ↦ absurd (h.above (negsuc 0) (omega (arith, ints, is, past, small)))
    | inr large ↦ absurd (e.least (w - m) (omega (arith, large)) (h.above (pos (w - m)) (omega (arith, ints, is, past, large))))
  ]
]

-- nor is an element with two classes
pub betti-within : (G : List ℕ) (n s : ℕ) → All (λ g. 1 ≤ g) G → IsStrictlyIncreasing G → IsSpan G s → HasTwoClasses (IsFactorization G n) → n ≤ s
betti-within G n s positive up span h =
    let c = betti-candidate G positive n h in
    let rest = entry-within G span.0 (get_or G 0 0) (c.rest % get_or G 0 0) c.rest s (get_or G (length G - 1) 0) span.1 c.entry span.2 in
    omega (arith, rest, c.sum, ascends-le G up c.place (length G - 1) (omega (arith, c.in_range)) (omega (arith, c.in_range)))

-- so the greatest value of the canonical relations is not past a bound of the span
pub greatest-within : (G : List ℕ) (values : List ℕ) (top s b : ℕ) → All (λ g. 1 ≤ g) G → IsStrictlyIncreasing G → IsSpan G s → s ≤ b → ((n : ℕ) → Contains values n → HasTwoClasses (IsFactorization G n)) →
    (top ≡ 0) ⊎ Contains values top → top ≤ b
greatest-within G values top s b positive up span short betti (inl none) = omega (arith, none)
greatest-within G values top s b positive up span short betti (inr some) = omega (arith, short, betti-within G top s positive up span (betti top some))
