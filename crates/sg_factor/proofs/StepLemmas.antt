-- The differences of neighbours, up to a place.
use Rattle.std.proofs.Common.{◌≡◌, ℕ, ◌+◌, ◌-◌, ◌<◌, ◌≤◌, List, [], ◌∷◌, ◌++◌, length, sym, ap, subst, ◌∙◌, inl, inr, arith}
use Rattle.std.specs.Prelude.{Contains, ◌↔◌, slice_index}
use Rattle.std.specs.List.Sorted.{IsStrictlyIncreasing}
use Rattle.std.proofs.lemmas.Bool.{cases_lt}
use Rattle.std.proofs.lemmas.Grind.{get_or_default_zero}
use Rattle.std.proofs.lemmas.List.Elements.{Contains-get_or, Contains-append_left, Contains-push, Contains-push_cases}
use Rattle.sg_defs.specs.Listings.{Lists}
use Rattle.sg_nonunique.specs.Factorizations.{IsLengthIn}
use Rattle.sg_nonunique.specs.Deltas.{IsDelta}
use Rattle.sg_factor.specs.Steps.{IsStepOf}
use Rattle.sg_factor.proofs.AscendingLemmas.{ascends, ascends-le}

-- some entry before this place is d more than the one before it
abbrev pub IsStepBelow : List ℕ → ℕ → ℕ → Type 0
IsStepBelow l place d = (k : ℕ) × (k + 1 < place) × (k + 1 < length l) × (slice_index l k + d ≡ slice_index l (k + 1))

-- before the second place there is none
pub steps-none : (l : List ℕ) (d : ℕ) → Contains [] d ↔ IsStepBelow l 1 d
steps-none l d = ((λ h. absurd (omega (arith, h.1))), λ p. absurd (omega (arith, p.1)))

-- one difference more
pub steps-more : (l items new : List ℕ) (place : ℕ) → IsStrictlyIncreasing l → 1 ≤ place → place < length l → ((d : ℕ) → Contains items d ↔ IsStepBelow l place d) →
    new ≡ items ++ (slice_index l place - slice_index l (place - 1)) ∷ [] → (d : ℕ) → Contains new d ↔ IsStepBelow l (place + 1) d
steps-more l items new place up first inside before e d = (there, back)
  where
    at : place - 1 + 1 ≡ place
    at = omega arith

    rises : slice_index l (place - 1) < slice_index l place
    rises = subst (λ i. slice_index l (place - 1) < slice_index l i) at (up (place - 1) (omega arith))

    there : Contains new d → IsStepBelow l (place + 1) d
    there h = elim (Contains-push_cases items (slice_index l place - slice_index l (place - 1)) d (subst (λ xs. Contains xs d) e h)) [
      | inl old ↦ let p = (before d).0 old in (p.0, omega (arith, p.1), p.2, p.3)
      | inr last ↦ (place - 1, omega arith, omega arith, subst (λ i. slice_index l (place - 1) + d ≡ slice_index l i) (sym at) (omega (arith, last, rises)))
    ]

    back : IsStepBelow l (place + 1) d → Contains new d
    back p = elim (cases_lt (p.0 + 1) place) [
      | inl less ↦ subst (λ xs. Contains xs d) (sym e) (Contains-append_left items ((slice_index l place - slice_index l (place - 1)) ∷ []) d ((before d).1 (p.0, less, p.2, p.3)))
      | inr more ↦
          let here : p.0 ≡ place - 1 = omega (arith, p.1) in
          let there : p.0 + 1 ≡ place = omega (arith, p.1) in
          let is : slice_index l place - slice_index l (place - 1) ≡ d = omega (arith, p.3, ap (λ i. slice_index l i) here, ap (λ i. slice_index l i) there) in
          subst (λ xs. Contains xs d) (sym e) (subst (λ n. Contains (items ++ (slice_index l place - slice_index l (place - 1)) ∷ []) n) is
          (Contains-push items (slice_index l place - slice_index l (place - 1))))
    ]

-- at the end there are all
pub steps-all : (l : List ℕ) (place d : ℕ) → length l ≤ place → IsStepBelow l place d ↔ IsStepOf l d
steps-all l place d far = ((λ p. (p.0, p.2, p.3)), λ p. (p.0, omega (arith, p.1), p.1, p.2))

-- where the list has all lengths of a set of vectors, its differences are the deltas of the set
pub deltas-from_lengths : (V : List ℕ → Type 0) (l : List ℕ) → Lists (IsLengthIn V) l → (d : ℕ) → IsStepOf l d ↔ IsDelta V d
deltas-from_lengths V l h d = (there, back)
  where
    -- a length of the set stands at some place
    place-of : (n : ℕ) → IsLengthIn V n → (i : ℕ) × (i < length l) × (slice_index l i ≡ n)
    place-of n is = let p = (h.exactly n).1 is in (p.0, p.1, sym (get_or_default_zero l p.0 n p.1) ∙ p.2)

    there : IsStepOf l d → IsDelta V d
    there p = record {
      positive = omega (arith, h.ascending p.0 p.1, p.2);
      lower = slice_index l p.0;
      is_lower = (h.exactly (slice_index l p.0)).0 (Contains-get_or l p.0 0 (omega (arith, p.1)));
      is_upper = subst (IsLengthIn V) (sym p.2) ((h.exactly (slice_index l (p.0 + 1))).0 (Contains-get_or l (p.0 + 1) 0 p.1));
      none_between = λ k more less is.
          let q = place-of k is in
          elim (cases_lt p.0 q.0) [
            | inl after ↦ omega (arith, q.2, less, p.2, ascends-le l h.ascending (p.0 + 1) q.0 (omega arith) q.1)
            | inr before ↦ omega (arith, q.2, more, ascends-le l h.ascending q.0 p.0 before (omega (arith, p.1)))
          ];
    }

    back : IsDelta V d → IsStepOf l d
    back p =
        let i = place-of p.lower p.is_lower in
        let j = place-of (p.lower + d) p.is_upper in
        let positive : 0 < d = p.positive in
        elim (cases_lt (i.0 + 1) j.0) [
          | inl far ↦ absurd (p.none_between (slice_index l (i.0 + 1)) (omega (arith, i.2, h.ascending i.0 (omega (arith, j.1))))
              (omega (arith, j.2, ascends l h.ascending (i.0 + 1) j.0 far j.1))
              ((h.exactly (slice_index l (i.0 + 1))).0 (Contains-get_or l (i.0 + 1) 0 (omega (arith, j.1)))))
          | inr near ↦ elim (cases_lt i.0 j.0) [
            | inl after ↦
                let e : j.0 ≡ i.0 + 1 = omega arith in
                (i.0, subst (λ k. k < length l) e j.1, omega (arith, i.2, j.2, ap (λ k. slice_index l k) e))
            | inr before ↦ absurd (omega (arith, i.2, j.2, ascends-le l h.ascending j.0 i.0 before i.1))
          ]
        ]
