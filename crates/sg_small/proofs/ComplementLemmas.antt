-- The naturals outside a list of gaps.
use Rattle.std.proofs.Common.{◌≡◌, ℕ, ◌+◌, ◌<◌, ◌≤◌, ◌↔◌, List, [], ◌∷◌, ◌++◌, length, get_or, sym, ap, subst, ◌∙◌, inl, inr, arith}
use Rattle.std.specs.Prelude.{Contains}
use Rattle.std.proofs.lemmas.Bool.{cases_lt, cases_eq}
use Rattle.std.proofs.lemmas.List.{length_push}
use Rattle.std.proofs.lemmas.List.Elements.{Contains-append_left, Contains-push}
use Rattle.std.proofs.lemmas.List.Kept.{AllPairs-from_increasing}
use Rattle.std.specs.List.Sorted.{IsStrictlyIncreasing}
use Rattle.sg_defs.proofs.MinimalLemmas.{first-least}
use Rattle.sg_classes.proofs.GeneratorLemmas.{contains-place, place-contains, push_cases}
use Rattle.sg_small.specs.Sets.{IsInSmall, IsOutside}
use Rattle.sg_small.specs.Small.{AreSmallElements, IsComplement}

-- of the naturals outside a list, one that stands next in it
module _ (gaps list : List ℕ) (next n : ℕ) (a : IsStrictlyIncreasing gaps) (h : IsComplement gaps list next n) where
  pub complement-skip : next < length gaps → get_or gaps next 0 ≡ n → IsComplement gaps list (next + 1) (n + 1)
  complement-skip l e = record {
    before = λ k m. elim (cases_lt k next) [
      | inl under ↦ omega (arith, h.before k under)
      | inr last ↦ let f : k ≡ next = omega arith in omega (arith, e, ap (λ j. get_or gaps j 0) f)
    ];
    after = λ k m q. omega (arith, e, AllPairs-from_increasing gaps a next k 0 (omega arith) q);
    ascending = h.ascending;
    listed = λ k m. (omega (arith, (h.listed k m).0), (h.listed k m).1);
    whole = λ x m. elim (cases_lt x n) [
      | inl under ↦ h.whole x under
      | inr last ↦ let f : n ≡ x = omega arith in inl (subst (Contains gaps) (e ∙ f) (place-contains gaps next l))
    ];
  }

  -- the gaps not met yet are greater
  greater : (next < length gaps → get_or gaps next 0 ≡ n → ⊥) → (k : ℕ) → next ≤ k → k < length gaps → n + 1 ≤ get_or gaps k 0
  greater other k m q = elim (cases_eq (get_or gaps k 0) n) [
    | inr differs ↦ omega (arith, h.after k m q, differs)
    | inl e ↦ elim (cases_eq k next) [
      | inl same ↦ absurd (other (omega arith) (ap (λ j. get_or gaps j 0) (sym same) ∙ e))
      | inr differs ↦ omega (arith, e, h.after next (omega arith) (omega arith), AllPairs-from_increasing gaps a next k 0 (omega (arith, m, differs)) q)
    ]
  ]

  outside : (next < length gaps → get_or gaps next 0 ≡ n → ⊥) → Contains gaps n → ⊥
  outside other c =
      let p = contains-place gaps n c in
      elim (cases_lt p.0 next) [
        | inl under ↦ omega (arith, p.2, h.before p.0 under)
        | inr past ↦ omega (arith, p.2, greater other p.0 past p.1)
      ]

  pub complement-push : (next < length gaps → get_or gaps next 0 ≡ n → ⊥) → IsComplement gaps (list ++ n ∷ []) next (n + 1)
  complement-push other = record {
    before = λ k m. omega (arith, h.before k m);
    after = greater other;
    ascending = λ k l. elim (push_cases list n k (omega arith)) [
      | inl x ↦ elim (push_cases list n (k + 1) l) [
        | inl y ↦ omega (arith, h.ascending k y.0, x.1, y.1)
        | inr y ↦ omega (arith, (h.listed k x.0).0, x.1, y.1)
      ]
      | inr x ↦ absurd (omega (arith, x.0, l, length_push list n))
    ];
    listed = λ k m. elim (push_cases list n k m) [
      | inl x ↦ subst (λ v. (v < n + 1) × (Contains gaps v → ⊥)) (sym x.1) (omega (arith, (h.listed k x.0).0), (h.listed k x.0).1)
      | inr x ↦ subst (λ v. (v < n + 1) × (Contains gaps v → ⊥)) (sym x.1) (omega arith, outside other)
    ];
    whole = λ x m. elim (cases_lt x n) [
      | inl under ↦ elim (h.whole x under) [
        | inl gap ↦ inl gap
        | inr here ↦ inr (Contains-append_left list (n ∷ []) x here)
      ]
      | inr last ↦ let f : n ≡ x = omega arith in inr (subst (Contains (list ++ n ∷ [])) f (Contains-push list n))
    ];
  }

pub complement-none : (gaps : List ℕ) → IsComplement gaps [] 0 0
complement-none gaps = record {
  before = λ k m. absurd (omega arith);
  after = λ k m q. omega arith;
  ascending = λ k l. absurd (omega arith);
  listed = λ k m. absurd (omega arith);
  whole = λ x m. absurd (omega arith);
}

-- once all gaps are met
module _ (gaps list : List ℕ) (next e : ℕ) (positive : Contains gaps 0 → ⊥) (below : (k : ℕ) → k < length gaps → get_or gaps k 0 < e) (h : IsComplement gaps list next (e + 1)) where
  last : Contains list e
  last = elim (h.whole e (omega arith)) [
    | inr here ↦ here
    | inl gap ↦ let p = contains-place gaps e gap in absurd (omega (arith, p.2, below p.0 p.1))
  ]

  first : Contains list 0
  first = elim (h.whole 0 (omega arith)) [
    | inr here ↦ here
    | inl gap ↦ absurd (positive gap)
  ]

  pub complement-small : AreSmallElements list
  complement-small =
      let p = contains-place list 0 first in
      record {
        not_empty = omega (arith, p.1);
        ascending = h.ascending;
        zero = omega (arith, first-least list h.ascending p.0 p.1, p.2);
      }

  there : (n : ℕ) → IsOutside gaps n → IsInSmall list n
  there n out = elim (cases_lt n (e + 1)) [
    | inr past ↦ inr (λ k m. omega (arith, (h.listed k m).0, past))
    | inl within ↦ elim (h.whole n within) [
      | inl gap ↦ absurd (out gap)
      | inr here ↦ inl here
    ]
  ]

  back : (n : ℕ) → IsInSmall list n → IsOutside gaps n
  back n (inl here) gap = let p = contains-place list n here in (h.listed p.0 p.1).1 (subst (Contains gaps) (sym p.2) gap)
  back n (inr above) gap =
      let p = contains-place list e last in
      let q = contains-place gaps n gap in
      omega (arith, above p.0 p.1, p.2, q.2, below q.0 q.1)

  pub complement-same : (n : ℕ) → IsOutside gaps n ↔ IsInSmall list n
  complement-same n = ((there n), (back n))
