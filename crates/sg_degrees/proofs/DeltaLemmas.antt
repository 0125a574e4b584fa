-- The greatest delta: of a list of lengths, and over all elements with two classes.
use Rattle.std.proofs.Common.{◌≡◌, ℕ, ◌+◌, ◌-◌, ◌<◌, ◌≤◌, List, length, get_or, max, sym, ap, subst, inl, inr, arith}
use Rattle.std.specs.Prelude.{◌↔◌, All, Contains, None, Some}
use Rattle.std.specs.List.Sorted.{IsStrictlyIncreasing}
use Rattle.std.proofs.lemmas.Bool.{cases_lt}
use Rattle.sg_defs.specs.Listings.{Lists}
use Rattle.sg_defs.specs.Membership.{IsFactorization}
use Rattle.sg_nonunique.specs.Classes.{HasTwoClasses}
use Rattle.sg_nonunique.specs.Deltas.{IsSomeDelta, IsMinDelta, IsMaxDelta}
use Rattle.sg_nonunique.specs.Factorizations.{IsLengthIn}
use Rattle.sg_laws_families.proofs.Families.{numbers-family}
use Rattle.sg_laws_families.proofs.GapLemmas.{max_delta-from_betti}
use Rattle.sg_factor.specs.Steps.{IsStepOf}
use Rattle.sg_factor.proofs.StepLemmas.{IsStepBelow, deltas-from_lengths}
use Rattle.sg_degrees.specs.Greatest.{IsGreatestOver}
use Rattle.sg_degrees.specs.Lengths.{IsWidest}

-- ---- of a list

-- the widest step before a place
pub record IsWidestBelow (l : List ℕ) (place widest : ℕ) : Type 0 where
  pub bound : (d : ℕ) → IsStepBelow l place d → d ≤ widest
  pub reached : 0 < widest → IsStepOf l widest

-- before the second place there is none
pub widest-none : (l : List ℕ) → IsWidestBelow l 1 0
widest-none l = record { bound = λ d h. absurd (omega (arith, h.1)); reached = λ h. absurd (omega (arith, h)) }

-- one step more
pub widest-more : (l : List ℕ) (place widest : ℕ) → IsStrictlyIncreasing l → 1 ≤ place → place < length l → IsWidestBelow l place widest →
    IsWidestBelow l (place + 1) (max widest (get_or l place 0 - get_or l (place - 1) 0))
widest-more l place widest up first inside h =
    let step = get_or l place 0 - get_or l (place - 1) 0 in
    let at : place - 1 + 1 ≡ place = omega (arith, first) in
    let rises : get_or l (place - 1) 0 < get_or l place 0 = subst (λ i. get_or l (place - 1) 0 < get_or l i 0) at (up (place - 1) (omega (arith, at, inside))) in
    record {
      bound = λ d s. elim (cases_lt (s.0 + 1) place) [
        | inl less ↦ omega (arith, h.bound d (s.0, less, s.2, s.3))
        | inr more ↦
            let here : s.0 ≡ place - 1 = omega (arith, s.1, more) in
            let there : s.0 + 1 ≡ place = omega (arith, s.1, more) in
            omega (arith, s.3, ap (λ i. get_or l i 0) here, ap (λ i. get_or l i 0) there)
      ];
      reached = λ positive. elim (cases_lt widest step) [
        | inl less ↦ subst (IsStepOf l) (let e : step ≡ max widest step = omega (arith, less) in e)
            (place - 1, omega (arith, at, inside), subst (λ i. get_or l (place - 1) 0 + step ≡ get_or l i 0) (sym at) (omega (arith, rises)))
        | inr more ↦ subst (IsStepOf l) (let e : widest ≡ max widest step = omega (arith, more) in e) (h.reached (omega (arith, positive, more)))
      ];
    }

-- ---- of an element

-- of the lengths of a set it is the greatest delta
pub widest-from_lengths : (V : List ℕ → Type 0) (l : List ℕ) (D : ℕ) → Lists (IsLengthIn V) l → ((d : ℕ) → IsStepOf l d → d ≤ D) → (0 < D → IsStepOf l D) → IsWidest V D
widest-from_lengths V l D lists bound_ reached_ = record {
  bound = λ d h. bound_ d ((deltas-from_lengths V l lists d).1 h);
  reached = λ positive. (deltas-from_lengths V l lists D).0 (reached_ positive);
}

-- ---- of all elements

-- where no element has a delta, none is the greatest
pub max-none : {I : Type 0} (F : I → List ℕ → Type 0) → IsMinDelta F None → IsMaxDelta F None
max-none F h = record { none = h.none; some = tt; greatest = tt }

module _ (G : List ℕ) (positive : All (λ g. 1 ≤ g) G) (values : List ℕ) (betti : (n : ℕ) → Contains values n ↔ HasTwoClasses (IsFactorization G n)) where
  -- the greatest delta of the elements with two classes, or the least of all
  pub max-from_values : (least N : ℕ) → IsMinDelta (IsFactorization G) (Some least) → IsGreatestOver (λ n. IsWidest (IsFactorization G n)) values N →
      IsMaxDelta (IsFactorization G) (Some (max least N))
  max-from_values least N m h = max_delta-from_betti (IsFactorization G) (λ n. n) (length G) (numbers-family G positive) (Some (max least N)) (record {
    none = tt;
    some = elim (cases_lt least N) [
      | inr more ↦ subst (IsSomeDelta (IsFactorization G)) (let e : least ≡ max least N = omega (arith, more) in e) m.some
      | inl less ↦ elim h.reached [
        | inl none ↦ absurd (omega (arith, none, less))
        | inr some ↦ subst (IsSomeDelta (IsFactorization G)) (let e : N ≡ max least N = omega (arith, less) in e) (some.0, some.2.reached (omega (arith, less)))
      ]
    ];
    greatest = λ n d two delta. let b = h.bound n ((betti n).1 two) in omega (arith, b.1.bound d delta, b.2);
  })
