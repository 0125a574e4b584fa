-- Small elements up to the conductor.
use Rattle.std.proofs.Common.{◌≡◌, ℕ, ◌+◌, ◌-◌, ◌<◌, ◌≤◌, ◌↔◌, List, length, get_or, take, sym, ap, subst, ◌∙◌, inl, inr, arith}
use Rattle.std.specs.Prelude.{Contains}
use Rattle.std.proofs.lemmas.Bool.{cases_lt}
use Rattle.std.proofs.lemmas.List.{get_or-take, length-take-le}
use Rattle.sg_classes.specs.Fit.{IsTooLarge}
use Rattle.sg_classes.proofs.FitLemmas.{too_large-from_gap, too_large-from_least}
use Rattle.sg_classes.proofs.GeneratorLemmas.{contains-place, place-contains}
use Rattle.sg_classes.specs.declared.limits.TheConstants.{APERY_ENTRY_LIMIT, MULTIPLICITY_LIMIT}
use Rattle.sg_small.specs.Sets.{IsClosedSet, IsInSmall}
use Rattle.sg_small.specs.Small.{AreSmallElements, HasGapBefore, HasGapBelowLast, IsRun}
use Rattle.sg_small.proofs.SmallLemmas.{less, up_to, small-cofinite}

module _ (list : List ℕ) (s : AreSmallElements list) where
  -- one more entry of the run
  pub run-more : (start place : ℕ) → start + 1 ≤ place → place < length list → get_or list place 0 - get_or list (place - 1) 0 ≤ 1 → IsRun list start place → IsRun list start (place + 1)
  run-more start place l inside near run k m = elim (cases_lt (start + k) place) [
    | inl before ↦ run k before
    | inr last ↦
        let e : start + k ≡ place = omega arith in
        let f : start + (k - 1) ≡ place - 1 = omega arith in
        omega (arith, ap (λ j. get_or list j 0) e, ap (λ j. get_or list j 0) f, run (k - 1) (omega arith), less list s (place - 1) place (omega arith) inside, near)
  ]

  pub run-new : (place : ℕ) → IsRun list place (place + 1)
  run-new place k m = let e : place + k ≡ place = omega arith in omega (arith, ap (λ j. get_or list j 0) e)

  module _ (start : ℕ) (inside : start < length list) (run : IsRun list start (length list)) (gap : HasGapBefore list start) where
    long : length (take (start + 1) list) ≡ start + 1
    long = length-take-le (start + 1) list (omega arith)

    at : (i : ℕ) → i < start + 1 → get_or (take (start + 1) list) i 0 ≡ get_or list i 0
    at i l = get_or-take (start + 1) list i 0 l

    pub trimmed-small : AreSmallElements (take (start + 1) list)
    trimmed-small = record {
      not_empty = omega (arith, long);
      ascending = λ k l. omega (arith, at k (omega (arith, long)), at (k + 1) (omega (arith, long)), s.ascending k (omega (arith, long)));
      zero = at 0 (omega arith) ∙ s.zero;
    }

    there : (n : ℕ) → IsInSmall list n → IsInSmall (take (start + 1) list) n
    there n (inr h) = inr (λ k m. omega (arith, at k (omega (arith, long)), h k (omega (arith, long))))
    there n (inl h) =
        let p = contains-place list n h in
        elim (cases_lt p.0 (start + 1)) [
          | inl before ↦ inl (subst (Contains (take (start + 1) list)) (at p.0 before ∙ p.2) (place-contains (take (start + 1) list) p.0 (omega (arith, long))))
          | inr after ↦ inr (λ k m. omega (arith, at k (omega (arith, long)), p.2, less list s k p.0 (omega (arith, long)) p.1))
        ]

    back : (n : ℕ) → IsInSmall (take (start + 1) list) n → IsInSmall list n
    back n (inl h) =
        let p = contains-place (take (start + 1) list) n h in
        inl (subst (Contains list) (sym (at p.0 (omega (arith, p.1, long))) ∙ p.2) (place-contains list p.0 (omega (arith, p.1, long))))
    back n (inr h) =
        let above : get_or list start 0 < n = omega (arith, at start (omega arith), h start (omega (arith, long))) in
        let d = n - get_or list start 0 in
        elim (cases_lt (start + d) (length list)) [
          | inl within ↦
              let e : get_or list (start + d) 0 ≡ n = omega (arith, run d within) in
              inl (subst (Contains list) e (place-contains list (start + d) within))
          | inr past ↦
              let w = length list - 1 - start in
              let e : start + w ≡ length list - 1 = omega arith in
              inr (λ k m. omega (arith, up_to list s k (length list - 1) (omega arith) (omega arith), run w (omega arith), ap (λ j. get_or list j 0) e))
        ]

    pub trimmed-same : (n : ℕ) → IsInSmall list n ↔ IsInSmall (take (start + 1) list) n
    trimmed-same n = ((there n), (back n))

    pub trimmed-gap : HasGapBelowLast (take (start + 1) list)
    trimmed-gap n e h = elim h [
      | inr above ↦ omega (arith, last, above start (omega (arith, long)), at start (omega arith))
      | inl listed ↦
          let p = contains-place (take (start + 1) list) n listed in
          let q = at p.0 (omega (arith, p.1, long)) in
          elim (cases_lt p.0 start) [
            | inl before ↦ omega (arith, last, p.2, q, gap (omega arith), up_to list s p.0 (start - 1) (omega arith) (omega arith))
            | inr here ↦ let f : p.0 ≡ start = omega (arith, p.1, long) in omega (arith, last, p.2, q, ap (λ j. get_or list j 0) f)
          ]
    ]
      where
        last : n + 1 ≡ get_or list start 0
        last = let f : length (take (start + 1) list) - 1 ≡ start = omega (arith, long) in e ∙ ap (λ j. get_or (take (start + 1) list) j 0) f ∙ at start (omega arith)

  -- the multiplicity is past its limit
  pub small-too_large_least : (m : ℕ) → IsClosedSet (IsInSmall list) → MULTIPLICITY_LIMIT < m → ((x : ℕ) → 0 < x → IsInSmall list x → m ≤ x) → IsTooLarge (IsInSmall list)
  small-too_large_least m closed l least = too_large-from_least (IsInSmall list) (get_or list (length list - 1) 0 + 1) (small-cofinite list s closed) m l least

  -- the conductor is past the product of the limits
  pub small-too_large_gap : IsClosedSet (IsInSmall list) → APERY_ENTRY_LIMIT < get_or list (length list - 1) 0 → HasGapBelowLast list → IsTooLarge (IsInSmall list)
  small-too_large_gap closed l gap =
      let c = get_or list (length list - 1) 0 in
      too_large-from_gap (IsInSmall list) (c + 1) (small-cofinite list s closed) (c - 1) (omega arith) (gap (c - 1) (omega arith))
