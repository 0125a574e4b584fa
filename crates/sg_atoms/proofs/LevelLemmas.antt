-- The grown vectors level by level: the next level grows from one level, and where a level is empty all levels are known.
use Rattle.std.proofs.Common.{◌≡◌, ◌≢◌, ℕ, zero, suc, ◌+◌, ◌-◌, ◌<◌, ◌≤◌, ℤ, List, [], ◌++◌, length, sum, sym, ap, subst, ◌∙◌, inl, inr, arith}
use Rattle.std.specs.Prelude.{◌↔◌}
use Rattle.std.proofs.lemmas.Bool.{cases_lt}
use Rattle.std.proofs.lemmas.List.Elements.{Contains-append_left, Contains-append_right, Contains-append_cases}
use Rattle.sg_nonunique.specs.Places.{unit}
use Rattle.sg_nonunique.specs.Counts.{Exceeds}
use Rattle.sg_nonunique.specs.Equations.{IsSolution, IsAtom, GrowsTo, IsGrown, AreColumns}
use Rattle.sg_nonunique.proofs.PlaceLemmas.{sum-unit}
use Rattle.sg_laws_finite.specs.Listed.{IsListing}
use Rattle.sg_laws_finite.proofs.ElementLemmas.{contains-nil, pairs-append}
use Rattle.sg_laws_finite.proofs.CountLemmas.{exceeds-from_listing, listing-from_exceeds}
use Rattle.sg_atoms.specs.Levels.{IsOnLevel, IsBeforeLevel, IsAtomBefore}
use Rattle.sg_atoms.proofs.GrownLemmas.{grown-unit, grown-step, grown-cases, length-grown, grown-positive, grown-atom, atom-grown, sum-step}

module _ (r : ℕ) (columns : List (List ℤ)) where
  abbrev places : ℕ
  places = length columns

  -- the first level has the unit vectors
  pub first-level : (p : List ℕ) → IsOnLevel r columns 1 p ↔ ((j : ℕ) × (j < places) × (unit places j ≡ p))
  first-level p = (
    (λ h. elim (grown-cases r columns p h.0) [
      | inl first ↦ first
      | inr after ↦ absurd (omega (arith, h.1, grown-positive r columns after.0 after.1, sum-step r columns after.0 p (length-grown r columns after.0 after.1) after.2))
    ]),
    (λ h. (subst (IsGrown r columns) h.2 (grown-unit r columns h.0 h.1), ap sum (sym h.2) ∙ sum-unit places h.0 h.1)),
  )

  -- the next one has what a level grows to
  pub next-level : (l : ℕ) → 0 < l → (q : List ℕ) → IsOnLevel r columns (l + 1) q ↔ ((p : List ℕ) × IsOnLevel r columns l p × GrowsTo r columns p q)
  next-level l some q = (
    (λ h. elim (grown-cases r columns q h.0) [
      | inl first ↦ absurd (omega (arith, some, h.1, ap sum first.2, sum-unit places first.0 first.1))
      | inr after ↦ (after.0, (after.1, omega (arith, h.1, sum-step r columns after.0 q (length-grown r columns after.0 after.1) after.2)), after.2)
    ]),
    (λ h. (grown-step r columns h.0 q h.1.0 h.2, omega (arith, h.1.1, sum-step r columns h.0 q (length-grown r columns h.0 h.1.0) h.2))),
  )

  -- a grown vector passed through each level up to its own
  pub passes : (n : ℕ) (q : List ℕ) (l : ℕ) → IsGrown r columns q → 0 < l → l + n ≡ sum q → (p : List ℕ) × IsOnLevel r columns l p
  passes zero q l g some e = (q, (g, omega (arith, e)))
  passes (suc n) q l g some e =
      let back = (next-level (l + n) (omega arith) q).0 (g, omega (arith, e)) in
      passes n back.0 l back.1.0 some (sym back.1.1)

  -- where a level is empty, all grown vectors are before it
  pub none-after : (l : ℕ) → 0 < l → ((p : List ℕ) → IsOnLevel r columns l p → ⊥) → (q : List ℕ) → IsGrown r columns q → sum q < l
  none-after l some none q g = elim (cases_lt (sum q) l) [
    | inl less ↦ less
    | inr more ↦ let p = passes (sum q - l) q l g some (omega (arith, more)) in absurd (none p.0 p.1)
  ]

  -- what was seen and a level are what is before the next level
  pub seen-more : (l : ℕ) (seen level : List (List ℕ)) → IsListing (IsBeforeLevel r columns l) seen → IsListing (IsOnLevel r columns l) level →
      IsListing (IsBeforeLevel r columns (l + 1)) (seen ++ level)
  seen-more l seen level s h = record {
    different = pairs-append (λ x y. x ≢ y) seen level s.different h.different
        (λ x y a b e. omega (arith, ((s.exactly x).0 a).1, ((h.exactly y).0 b).1, ap sum e));
    exactly = λ q. (
      (λ c. elim (Contains-append_cases seen level q c) [
        | inl a ↦ let p = (s.exactly q).0 a in (p.0, omega (arith, p.1))
        | inr b ↦ let p = (h.exactly q).0 b in (p.0, omega (arith, p.1))
      ]),
      (λ p. elim (cases_lt (sum q) l) [
        | inl less ↦ Contains-append_left seen level q ((s.exactly q).1 (p.0, less))
        | inr more ↦ Contains-append_right seen level q ((h.exactly q).1 (p.0, omega (arith, more, p.1)))
      ]),
    );
  }

  -- before the first level there is none
  pub seen-none : IsListing (IsBeforeLevel r columns 1) []
  seen-none = record {
    different = λ i j d l k. absurd (omega arith);
    exactly = λ q. ((λ c. absurd (contains-nil q c)), (λ p. absurd (omega (arith, p.1, grown-positive r columns q p.0))));
  }

  -- more than b were seen before some level: more than b are grown
  pub seen-many : (l b : ℕ) (seen : List (List ℕ)) → IsListing (IsBeforeLevel r columns l) seen → b < length seen → Exceeds (IsGrown r columns) b
  seen-many l b seen s more =
      let e = exceeds-from_listing (IsBeforeLevel r columns l) seen b s more in
      (e.0, e.1, e.2, λ k d inside. (e.3 k d inside).0)

  -- all were seen, and are no more than b
  pub seen-all : (l b : ℕ) (seen : List (List ℕ)) → 0 < l → IsListing (IsBeforeLevel r columns l) seen → ((p : List ℕ) → IsOnLevel r columns l p → ⊥) →
      length seen ≤ b → Exceeds (IsGrown r columns) b → ⊥
  seen-all l b seen some s none few e =
      omega (arith, few, listing-from_exceeds (IsGrown r columns) seen b (λ q g. (s.exactly q).1 (g, none-after l some none q g)) e)

  -- ---- atoms

  module _ (shape : AreColumns r columns) where
    -- the atoms on a level are its solutions
    pub atoms-on : (l : ℕ) (a : List ℕ) → (IsAtom r columns a × (sum a ≡ l)) ↔ (IsOnLevel r columns l a × IsSolution r columns a)
    atoms-on l a = (
      (λ h. ((atom-grown r columns shape a h.0, h.1), h.0.solution)),
      (λ h. (grown-atom r columns a h.0.0 h.1, h.0.1)),
    )

    -- where a level is empty, all atoms are before it
    pub atoms-all : (l : ℕ) → 0 < l → ((p : List ℕ) → IsOnLevel r columns l p → ⊥) → (a : List ℕ) → IsAtomBefore r columns l a ↔ IsAtom r columns a
    atoms-all l some none a = ((λ h. h.0), (λ h. (h, none-after l some none a (atom-grown r columns shape a h))))

    pub atoms-none : (a : List ℕ) → IsAtomBefore r columns 1 a → ⊥
    atoms-none a h = omega (arith, h.1, grown-positive r columns a (atom-grown r columns shape a h.0))
