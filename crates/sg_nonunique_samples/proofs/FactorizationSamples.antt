-- Factorizations, lengths, counts and elasticities of small semigroups.
use Rattle.std.proofs.Common.{◌≡◌, ℕ, ◌+◌, ◌*◌, ◌<◌, ◌≤◌, List, [], ◌∷◌, get_or, sum, refl, sym, ap, subst, ◌∙◌, inl, inr, arith}
use Rattle.std.specs.Prelude.{pos, negsuc, Contains}
use Rattle.std.specs.List.Sorted.{IsStrictlyIncreasing}
use Rattle.std.proofs.lemmas.List.Elements.{All-nil}
use Rattle.std.proofs.lemmas.List.Kept.{AllPairs-cons}
use Rattle.std.proofs.lemmas.Nat.Gcd.{dvd_of_mod-eq-zero, le_of_dvd, IsGcd-from_mod, IsGcd-from_zero}
use Rattle.sg_defs.specs.Listings.{Lists}
use Rattle.sg_defs.specs.Membership.{IsFactorization}
use Rattle.sg_defs.specs.Vectors.{IsLexBelow}
use Rattle.sg_nonunique.specs.Counts.{Exceeds}
use Rattle.sg_nonunique.specs.Elasticity.{IsElasticity}
use Rattle.sg_nonunique.specs.Factorizations.{AreFactorizations, IsLengthIn}
use Rattle.sg_laws_finite.proofs.CountLemmas.{exceeds-from_listing, listing-from_exceeds, listing-from_descending}
use Rattle.sg_laws_finite.proofs.ElementLemmas.{contains-nil, here, later, pairs-nil}
use Rattle.sg_nonunique_samples.proofs.KnownLists.{by_one, by_two, one-of, two-of, three-of, twelve, thirty}

pub negative : AreFactorizations (3 ∷ 5 ∷ 7 ∷ []) (negsuc 2) []
negative = record { descending = pairs-nil (λ x y. IsLexBelow y x); exactly = λ z. ((λ h. absurd (contains-nil z h)), (λ f. absurd f)) }

pub naturals : (n : ℕ) → AreFactorizations (1 ∷ []) (pos n) ((n ∷ []) ∷ [])
naturals n = record {
  descending = AllPairs-cons (λ x y. IsLexBelow y x) (n ∷ []) [] (All-nil (λ y. IsLexBelow y (n ∷ []))) (pairs-nil (λ x y. IsLexBelow y x));
  exactly = λ z. (
    (λ h. subst (IsFactorization (1 ∷ []) n) (sym (one-of (n ∷ []) z h)) (record { places = refl; value = omega arith })),
    (λ f.
        let p = by_one 1 n z f in
        let e : p.0 ≡ n = omega (arith, p.2) in
        subst (Contains ((n ∷ []) ∷ [])) (sym (p.1 ∙ ap (λ m. m ∷ []) e)) (here (n ∷ []) [])),
  );
}

-- ---- lengths

pub increasing-2 : (a b : ℕ) → a < b → IsStrictlyIncreasing (a ∷ b ∷ [])
increasing-2 a b l k inside = at k inside
  where
    at : (k : ℕ) → k + 1 < 2 → get_or (a ∷ b ∷ []) k 0 < get_or (a ∷ b ∷ []) (k + 1) 0
    at k inside = let e : k ≡ 0 = omega arith in subst (λ i. get_or (a ∷ b ∷ []) i 0 < get_or (a ∷ b ∷ []) (i + 1) 0) (sym e) l

pub lengths-twelve : Lists (IsLengthIn (IsFactorization (3 ∷ 5 ∷ 7 ∷ []) 12)) (2 ∷ 4 ∷ [])
lengths-twelve = record { ascending = increasing-2 2 4 (omega arith); exactly = λ n. (to n, from n) }
  where
    to : (n : ℕ) → Contains (2 ∷ 4 ∷ []) n → IsLengthIn (IsFactorization (3 ∷ 5 ∷ 7 ∷ []) 12) n
    to n h = elim (two-of 2 4 n h) [
      | inl e ↦ (0 ∷ 1 ∷ 1 ∷ [], record { places = refl; value = refl }, sym e)
      | inr e ↦ (4 ∷ 0 ∷ 0 ∷ [], record { places = refl; value = refl }, sym e)
    ]

    from : (n : ℕ) → IsLengthIn (IsFactorization (3 ∷ 5 ∷ 7 ∷ []) 12) n → Contains (2 ∷ 4 ∷ []) n
    from n h = elim (two-of (4 ∷ 0 ∷ 0 ∷ []) (0 ∷ 1 ∷ 1 ∷ []) h.0 ((twelve.exactly h.0).1 h.1)) [
      | inl e ↦ subst (Contains (2 ∷ 4 ∷ [])) (ap sum (sym e) ∙ h.2) (later 2 (4 ∷ []) 4 (here 4 []))
      | inr e ↦ subst (Contains (2 ∷ 4 ∷ [])) (ap sum (sym e) ∙ h.2) (here 2 (4 ∷ []))
    ]

-- 30 has the lengths 2, 3 and 5 in <6, 10, 15>
pub lengths-thirty : (n : ℕ) → IsLengthIn (IsFactorization (6 ∷ 10 ∷ 15 ∷ []) 30) n → Contains (2 ∷ 3 ∷ 5 ∷ []) n
lengths-thirty n h = elim (three-of (5 ∷ 0 ∷ 0 ∷ []) (0 ∷ 3 ∷ 0 ∷ []) (0 ∷ 0 ∷ 2 ∷ []) h.0 ((thirty.exactly h.0).1 h.1)) [
  | inl e ↦ subst (Contains (2 ∷ 3 ∷ 5 ∷ [])) (ap sum (sym e) ∙ h.2) (later 2 (3 ∷ 5 ∷ []) 5 (later 3 (5 ∷ []) 5 (here 5 [])))
  | inr other ↦ elim other [
    | inl e ↦ subst (Contains (2 ∷ 3 ∷ 5 ∷ [])) (ap sum (sym e) ∙ h.2) (later 2 (3 ∷ 5 ∷ []) 3 (here 3 (5 ∷ [])))
    | inr e ↦ subst (Contains (2 ∷ 3 ∷ 5 ∷ [])) (ap sum (sym e) ∙ h.2) (here 2 (3 ∷ 5 ∷ []))
  ]
]

-- ---- counts

pub above_two : Exceeds (IsFactorization (6 ∷ 10 ∷ 15 ∷ []) 30) 2
above_two =
    let V = IsFactorization (6 ∷ 10 ∷ 15 ∷ []) 30 in
    exceeds-from_listing V ((5 ∷ 0 ∷ 0 ∷ []) ∷ (0 ∷ 3 ∷ 0 ∷ []) ∷ (0 ∷ 0 ∷ 2 ∷ []) ∷ []) 2
    (listing-from_descending V ((5 ∷ 0 ∷ 0 ∷ []) ∷ (0 ∷ 3 ∷ 0 ∷ []) ∷ (0 ∷ 0 ∷ 2 ∷ []) ∷ []) thirty) (omega arith)

pub not_above_three : Exceeds (IsFactorization (6 ∷ 10 ∷ 15 ∷ []) 30) 3 → ⊥
not_above_three h =
    let V = IsFactorization (6 ∷ 10 ∷ 15 ∷ []) 30 in
    let l : 3 < 3 = listing-from_exceeds V ((5 ∷ 0 ∷ 0 ∷ []) ∷ (0 ∷ 3 ∷ 0 ∷ []) ∷ (0 ∷ 0 ∷ 2 ∷ []) ∷ []) 3 (λ x f. (thirty.exactly x).1 f) h in
    omega arith

-- ---- elasticities

pub five_thirds : IsElasticity (3 ∷ 5 ∷ []) 5 3
five_thirds = record {
  positive = omega arith;
  lowest = IsGcd-from_mod 5 3 1 (IsGcd-from_mod 3 2 1 (IsGcd-from_mod 2 1 1 (IsGcd-from_zero 1 0 refl)));
  bound = bound;
  reached = (15, omega arith, 5 ∷ 0 ∷ [], 0 ∷ 3 ∷ [], record { places = refl; value = refl }, record { places = refl; value = refl }, refl);
}
  where
    bound : (n : ℕ) (x y : List ℕ) → 0 < n → IsFactorization (3 ∷ 5 ∷ []) n x → IsFactorization (3 ∷ 5 ∷ []) n y → 3 * sum x ≤ 5 * sum y
    bound n x y l f g =
        let a = by_two 3 5 n x f in
        let b = by_two 3 5 n y g in
        subst (λ z. 3 * sum z ≤ 5 * sum y) (sym a.2) (subst (λ z. 3 * sum (a.0 ∷ a.1 ∷ []) ≤ 5 * sum z) (sym b.2) (omega (arith, a.3, b.3)))

-- 2 divides 10 and 6
pub not_ten_sixths : IsElasticity (3 ∷ 5 ∷ []) 10 6 → ⊥
not_ten_sixths h = let l : 2 ≤ 1 = le_of_dvd (omega arith) (h.lowest.2 2 (dvd_of_mod-eq-zero 2 refl) (dvd_of_mod-eq-zero 2 refl)) in omega arith

pub naturals-one : IsElasticity (1 ∷ []) 1 1
naturals-one = record {
  positive = omega arith;
  lowest = IsGcd-from_mod 1 1 1 (IsGcd-from_zero 1 0 refl);
  bound = bound;
  reached = (1, omega arith, 1 ∷ [], 1 ∷ [], record { places = refl; value = refl }, record { places = refl; value = refl }, refl);
}
  where
    bound : (n : ℕ) (x y : List ℕ) → 0 < n → IsFactorization (1 ∷ []) n x → IsFactorization (1 ∷ []) n y → 1 * sum x ≤ 1 * sum y
    bound n x y l f g =
        let a = by_one 1 n x f in
        let b = by_one 1 n y g in
        subst (λ z. 1 * sum z ≤ 1 * sum y) (sym a.1) (subst (λ z. 1 * sum (a.0 ∷ []) ≤ 1 * sum z) (sym b.1) (omega (arith, a.2, b.2)))
