-- Deltas of small semigroups.
use Rattle.std.proofs.Common.{◌≡◌, ℕ, zero, suc, ◌+◌, ◌-◌, ◌<◌, ◌≤◌, [], ◌∷◌, get_or, sum, refl, sym, ap, subst, ◌∙◌, inl, inr, arith}
use Rattle.std.specs.Prelude.{◌⊎◌, Contains, None, Some}
use Rattle.std.specs.Int.{◌∣◌}
use Rattle.std.proofs.lemmas.Bool.{cases_lt}
use Rattle.std.proofs.lemmas.List.Elements.{All-nil, All-cons}
use Rattle.std.proofs.lemmas.Nat.Gcd.{dvd_refl, dvd-zero, le_of_dvd}
use Rattle.std.proofs.Math.Nat.{dvd-sub}
use Rattle.sg_defs.specs.Listings.{Lists}
use Rattle.sg_defs.specs.Membership.{IsFactorization, IsNumericalSemigroup}
use Rattle.sg_nonunique.specs.Deltas.{IsDelta, IsMaxDelta, IsMinDelta}
use Rattle.sg_nonunique.specs.Factorizations.{IsLengthIn}
use Rattle.sg_laws_finite.proofs.ElementLemmas.{here, later}
use Rattle.sg_laws_families.proofs.DifferenceLemmas.{min_delta-none, min_delta-some}
use Rattle.sg_nonunique_samples.proofs.FactorizationSamples.{increasing-2, lengths-twelve, lengths-thirty}
use Rattle.sg_nonunique_samples.proofs.KnownLists.{by_one, by_two, one-of, two-of, three-of, positive-2}

pub deltas-twelve : Lists (IsDelta (IsFactorization (3 ∷ 5 ∷ 7 ∷ []) 12)) (2 ∷ [])
deltas-twelve = record { ascending = λ k l. absurd (omega arith); exactly = λ d. (to d, from d) }
  where
    is_length : (k : ℕ) → Contains (2 ∷ 4 ∷ []) k → IsLengthIn (IsFactorization (3 ∷ 5 ∷ 7 ∷ []) 12) k
    is_length k h = (lengths-twelve.exactly k).0 h

    two_or_four : (k : ℕ) → IsLengthIn (IsFactorization (3 ∷ 5 ∷ 7 ∷ []) 12) k → (k ≡ 2) ⊎ (k ≡ 4)
    two_or_four k h = two-of 2 4 k ((lengths-twelve.exactly k).1 h)

    two : IsDelta (IsFactorization (3 ∷ 5 ∷ 7 ∷ []) 12) 2
    two = record {
      positive = omega arith;
      lower = 2;
      is_lower = is_length 2 (here 2 (4 ∷ []));
      is_upper = is_length 4 (later 2 (4 ∷ []) 4 (here 4 []));
      none_between = λ k l m h. elim (two_or_four k h) [ inl e ↦ omega arith | inr e ↦ omega arith ];
    }

    to : (d : ℕ) → Contains (2 ∷ []) d → IsDelta (IsFactorization (3 ∷ 5 ∷ 7 ∷ []) 12) d
    to d h = subst (IsDelta (IsFactorization (3 ∷ 5 ∷ 7 ∷ []) 12)) (sym (one-of 2 d h)) two

    only : (d : ℕ) → IsDelta (IsFactorization (3 ∷ 5 ∷ 7 ∷ []) 12) d → d ≡ 2
    only d h =
        let l = h.positive in
        elim (two_or_four h.lower h.is_lower) [
          | inl e ↦ elim (two_or_four (h.lower + d) h.is_upper) [ inl f ↦ absurd (omega (arith, l, e, f)) | inr f ↦ omega (arith, e, f) ]
          | inr e ↦ elim (two_or_four (h.lower + d) h.is_upper) [ inl f ↦ absurd (omega (arith, l, e, f)) | inr f ↦ absurd (omega (arith, l, e, f)) ]
        ]

    from : (d : ℕ) → IsDelta (IsFactorization (3 ∷ 5 ∷ 7 ∷ []) 12) d → Contains (2 ∷ []) d
    from d h = subst (Contains (2 ∷ [])) (sym (only d h)) (here 2 [])

pub deltas-thirty : Lists (IsDelta (IsFactorization (6 ∷ 10 ∷ 15 ∷ []) 30)) (1 ∷ 2 ∷ [])
deltas-thirty = record { ascending = increasing-2 1 2 (omega arith); exactly = λ d. (to d, from d) }
  where
    one_of_three : (k : ℕ) → IsLengthIn (IsFactorization (6 ∷ 10 ∷ 15 ∷ []) 30) k → (k ≡ 2) ⊎ ((k ≡ 3) ⊎ (k ≡ 5))
    one_of_three k h = three-of 2 3 5 k (lengths-thirty k h)

    two : IsLengthIn (IsFactorization (6 ∷ 10 ∷ 15 ∷ []) 30) 2
    two = (0 ∷ 0 ∷ 2 ∷ [], record { places = refl; value = refl }, refl)

    three : IsLengthIn (IsFactorization (6 ∷ 10 ∷ 15 ∷ []) 30) 3
    three = (0 ∷ 3 ∷ 0 ∷ [], record { places = refl; value = refl }, refl)

    five : IsLengthIn (IsFactorization (6 ∷ 10 ∷ 15 ∷ []) 30) 5
    five = (5 ∷ 0 ∷ 0 ∷ [], record { places = refl; value = refl }, refl)

    not_between : (k : ℕ) → 3 < k → k < 5 → IsLengthIn (IsFactorization (6 ∷ 10 ∷ 15 ∷ []) 30) k → ⊥
    not_between k l m h = elim (one_of_three k h) [ inl e ↦ omega arith | inr other ↦ elim other [ inl e ↦ omega arith | inr e ↦ omega arith ] ]

    to : (d : ℕ) → Contains (1 ∷ 2 ∷ []) d → IsDelta (IsFactorization (6 ∷ 10 ∷ 15 ∷ []) 30) d
    to d h = elim (two-of 1 2 d h) [
      | inl e ↦ subst (IsDelta (IsFactorization (6 ∷ 10 ∷ 15 ∷ []) 30)) (sym e)
          (record { positive = omega arith; lower = 2; is_lower = two; is_upper = three; none_between = λ k l m h. omega arith })
      | inr e ↦ subst (IsDelta (IsFactorization (6 ∷ 10 ∷ 15 ∷ []) 30)) (sym e)
          (record { positive = omega arith; lower = 3; is_lower = three; is_upper = five; none_between = not_between })
    ]

    -- 2 and 5 are no neighbours
    small : (d : ℕ) → IsDelta (IsFactorization (6 ∷ 10 ∷ 15 ∷ []) 30) d → (d ≡ 1) ⊎ (d ≡ 2)
    small d h = by h.lower h.positive (one_of_three h.lower h.is_lower) (one_of_three (h.lower + d) h.is_upper) (λ l m. h.none_between 3 l m three)
      where
        by : (k : ℕ) → 0 < d → (k ≡ 2) ⊎ ((k ≡ 3) ⊎ (k ≡ 5)) → (k + d ≡ 2) ⊎ ((k + d ≡ 3) ⊎ (k + d ≡ 5)) → (k < 3 → 3 < k + d → ⊥) → (d ≡ 1) ⊎ (d ≡ 2)
        by k p a (inl f) n = elim a [ inl e ↦ absurd (omega arith) | inr o ↦ elim o [ inl e ↦ absurd (omega arith) | inr e ↦ absurd (omega arith) ] ]
        by k p a (inr (inl f)) n = elim a [ inl e ↦ inl (omega arith) | inr o ↦ elim o [ inl e ↦ absurd (omega arith) | inr e ↦ absurd (omega arith) ] ]
        by k p a (inr (inr f)) n = elim a [ inl e ↦ absurd (n (omega arith) (omega arith)) | inr o ↦ elim o [ inl e ↦ inr (omega arith) | inr e ↦ absurd (omega arith) ] ]

    from : (d : ℕ) → IsDelta (IsFactorization (6 ∷ 10 ∷ 15 ∷ []) 30) d → Contains (1 ∷ 2 ∷ []) d
    from d h = elim (small d h) [
      | inl e ↦ subst (Contains (1 ∷ 2 ∷ [])) (sym e) (here 1 (2 ∷ []))
      | inr e ↦ subst (Contains (1 ∷ 2 ∷ [])) (sym e) (later 1 (2 ∷ []) 2 (here 2 []))
    ]

-- ---- of all elements

three_five : IsNumericalSemigroup (3 ∷ 5 ∷ [])
three_five = record {
  not_empty = omega arith;
  positive = positive-2 3 5 (omega arith) (omega arith);
  coprime = λ d h.
      let three = h 0 0 (omega arith) in
      let two : d ∣ 2 = dvd-sub d (h 1 0 (omega arith)) three in
      le_of_dvd (omega arith) (let one : d ∣ 1 = dvd-sub d three two in one);
}

one : IsNumericalSemigroup (1 ∷ [])
one = record {
  not_empty = omega arith;
  positive = All-cons (λ g. 1 ≤ g) 1 [] (omega arith) (All-nil (λ g. 1 ≤ g));
  coprime = λ d h. le_of_dvd (omega arith) (h 0 0 (omega arith));
}

pub least-two : IsMinDelta (IsFactorization (3 ∷ 5 ∷ [])) (Some 2)
least-two = min_delta-some (3 ∷ 5 ∷ []) three_five more 2 (record { divides = divides; greatest = λ d h. h 1 (omega arith) }) (omega arith)
  where
    more : (j : ℕ) → j < 2 → 3 ≤ get_or (3 ∷ 5 ∷ []) j 0
    more zero l = omega arith
    more (suc zero) l = omega arith
    more (suc (suc j)) l = absurd (omega arith)

    divides : (i : ℕ) → i < 2 → 2 ∣ (get_or (3 ∷ 5 ∷ []) i 0 - 3)
    divides zero l = dvd-zero 2
    divides (suc zero) l = dvd_refl 2
    divides (suc (suc i)) l = absurd (omega arith)

-- where two lengths are more than 2 apart, three 5 can be exchanged for five 3
pub greatest-two : IsMaxDelta (IsFactorization (3 ∷ 5 ∷ [])) (Some 2)
greatest-two = record { none = tt; some = (15, two); greatest = λ d t. small t.0 d t.1 }
  where
    two : IsDelta (IsFactorization (3 ∷ 5 ∷ []) 15) 2
    two = record {
      positive = omega arith;
      lower = 3;
      is_lower = (0 ∷ 3 ∷ [], record { places = refl; value = refl }, refl);
      is_upper = (5 ∷ 0 ∷ [], record { places = refl; value = refl }, refl);
      none_between = λ k l m h.
          let p = by_two 3 5 15 h.0 h.1 in
          let e : sum (p.0 ∷ p.1 ∷ []) ≡ k = ap sum (sym p.2) ∙ h.2 in
          omega (arith, p.3, e, l, m);
    }

    small : (n d : ℕ) → IsDelta (IsFactorization (3 ∷ 5 ∷ []) n) d → d ≤ 2
    small n d h = elim (cases_lt 2 d) [
      | inr few ↦ few
      | inl many ↦
          let p = by_two 3 5 n h.is_lower.0 h.is_lower.1 in
          let q = by_two 3 5 n h.is_upper.0 h.is_upper.1 in
          let e : sum (p.0 ∷ p.1 ∷ []) ≡ h.lower = ap sum (sym p.2) ∙ h.is_lower.2 in
          let f : sum (q.0 ∷ q.1 ∷ []) ≡ h.lower + d = ap sum (sym q.2) ∙ h.is_upper.2 in
          let enough : 3 ≤ p.1 = omega (arith, p.3, q.3, e, f, many) in
          let z = (p.0 + 5) ∷ (p.1 - 3) ∷ [] in
          let between : IsLengthIn (IsFactorization (3 ∷ 5 ∷ []) n) (h.lower + 2) =
          (z, record { places = refl; value = omega (arith, p.3, enough) }, (let g : sum z ≡ h.lower + 2 = omega (arith, e, enough) in g)) in
          absurd (h.none_between (h.lower + 2) (omega arith) (omega (arith, many)) between)
    ]

pub naturals-least : IsMinDelta (IsFactorization (1 ∷ [])) None
naturals-least = min_delta-none (1 ∷ []) one more 0 (record { divides = divides; greatest = λ d h. dvd-zero d }) refl
  where
    more : (j : ℕ) → j < 1 → 1 ≤ get_or (1 ∷ []) j 0
    more zero l = omega arith
    more (suc j) l = absurd (omega arith)

    divides : (i : ℕ) → i < 1 → 0 ∣ (get_or (1 ∷ []) i 0 - 1)
    divides zero l = dvd-zero 0
    divides (suc i) l = absurd (omega arith)

pub naturals-greatest : IsMaxDelta (IsFactorization (1 ∷ [])) None
naturals-greatest = record { none = λ d t. none t.0 d t.1; some = tt; greatest = tt }
  where
    none : (n d : ℕ) → IsDelta (IsFactorization (1 ∷ []) n) d → ⊥
    none n d h =
        let p = by_one 1 n h.is_lower.0 h.is_lower.1 in
        let q = by_one 1 n h.is_upper.0 h.is_upper.1 in
        let e : sum (p.0 ∷ []) ≡ h.lower = ap sum (sym p.1) ∙ h.is_lower.2 in
        let f : sum (q.0 ∷ []) ≡ h.lower + d = ap sum (sym q.1) ∙ h.is_upper.2 in
        omega (arith, p.2, q.2, e, f, h.positive)
