-- An element with two classes is the sum of an Apery element and a later generator, before which none can be taken from
-- the Apery element: the least place of a class that lacks the first one.
use Rattle.std.proofs.Common.{◌≡◌, ℕ, zero, suc, ◌+◌, ◌-◌, ◌<◌, ◌≤◌, List, length, get_or, refl, subst, ◌∙◌, inl, inr, arith}
use Rattle.std.specs.Prelude.{◌⊎◌, All}
use Rattle.std.proofs.lemmas.Bool.{cases_lt, cases_eq}
use Rattle.sg_defs.specs.Vectors.{value_of}
use Rattle.sg_defs.specs.Membership.{IsFactorization, IsMember}
use Rattle.sg_defs.proofs.DecidedLemmas.{member-decided}
use Rattle.sg_nonunique.specs.Places.{raise, lower}
use Rattle.sg_nonunique.specs.Classes.{IsSameClass, HasTwoClasses}
use Rattle.sg_nonunique.proofs.PlaceLemmas.{inside, length-raise, length-lower, raise-same, raise-other, value_of-raise, value_of-lower}
use Rattle.sg_laws_families.specs.Candidates.{IsBettiCandidate}
use Rattle.sg_laws_families.specs.PlaceGraph.{IsVertex}
use Rattle.sg_laws_families.proofs.BettiLemmas.{no_classes_of_zero}
use Rattle.sg_laws_families.proofs.ClassLemmas.{class-here, class-step, class-then, class-back}
use Rattle.sg_laws_families.proofs.PlaceClasses.{number-vertex}
use Rattle.sg_betti.proofs.GraphLemmas.{some-positive}

module _ (G : List ℕ) where
  -- a generator can be taken from a number, or not
  vertex-decided : (n i : ℕ) → i < length G → IsVertex (IsFactorization G n) i ⊎ ¬ IsVertex (IsFactorization G n) i
  vertex-decided n i l = elim (cases_lt n (get_or G i 0)) [
    | inl less ↦ inr (λ v. let m = (number-vertex G n i l).0 v in omega (arith, m.1, less))
    | inr more ↦ elim (member-decided G (n - get_or G i 0)) [
      | inl m ↦ inl ((number-vertex G n i l).1 (n - get_or G i 0, (let e : n - get_or G i 0 + get_or G i 0 ≡ n = omega (arith, more) in e), m))
      | inr never ↦ inr (λ v.
          let m = (number-vertex G n i l).0 v in
          never (subst (IsMember G) (let e : m.0 ≡ n - get_or G i 0 = omega (arith, m.1) in e) m.2))
    ]
  ]

  -- some generator before place j can be taken from a number, or none
  earlier : (n j : ℕ) → j ≤ length G → ((i : ℕ) × (i < j) × IsVertex (IsFactorization G n) i) ⊎ ((i : ℕ) → i < j → ¬ IsVertex (IsFactorization G n) i)
  earlier n zero l = inr (λ i h. absurd (omega (arith, h)))
  earlier n (suc j) l = elim (earlier n j (omega (arith, l))) [
    | inl found ↦ inl (found.0, omega (arith, found.1), found.2)
    | inr none ↦ elim (vertex-decided n j (omega (arith, l))) [
      | inl v ↦ inl (j, omega arith, v)
      | inr never ↦ inr (λ i h. elim (cases_lt i j) [
        | inl less ↦ none i less
        | inr more ↦ subst (λ k. ¬ IsVertex (IsFactorization G n) k) (let e : j ≡ i = omega (arith, more, h) in e) never
      ])
    ]
  ]

  module _ (n : ℕ) where
    -- a candidate, before whose place no generator can be taken from the Apery element
    abbrev pub IsEarly : Type 0
    IsEarly = (c : IsBettiCandidate G n) × ((i : ℕ) → i < c.place → ¬ IsVertex (IsFactorization G c.rest) i)

    -- in the class of those that are positive at place 0
    abbrev IsWithFirst : List ℕ → Type 0
    IsWithFirst x = (u : List ℕ) × IsFactorization G n u × (0 < get_or u 0 0) × IsSameClass (IsFactorization G n) x u

    -- from a positive place to an earlier one of the same class, as long as there is one
    descend : (b j : ℕ) → j < b → (x : List ℕ) → IsFactorization G n x → 0 < get_or x j 0 → IsEarly ⊎ IsWithFirst x
    descend zero j l x f h = absurd (omega (arith, l))
    descend (suc b) j l x f h = elim (cases_eq j 0) [
      | inl first ↦ inr (x, f, subst (λ k. 0 < get_or x k 0) first h, class-here (IsFactorization G n) x f)
      | inr later ↦
          let in_range : j < length G = omega (arith, inside x j h, f.places) in
          let after : 0 < j = omega arith in
          let long : 0 < length G = omega (arith, in_range) in
          let rest = value_of G (lower x j) in
          let total : n ≡ rest + get_or G j 0 = omega (arith, value_of-lower G x j f.places h, f.value) in
          let member : IsMember G rest = (lower x j, record { places = length-lower x j ∙ f.places; value = refl }) in
          elim (earlier rest j (omega (arith, in_range))) [
            | inl found ↦
                let i = found.0 in
                let v = found.2 in
                let both = raise v.0 j in
                let value : value_of G both ≡ n = omega (arith, value_of-raise G v.0 j in_range v.1.places, v.1.value, total) in
                let g : IsFactorization G n both = record { places = length-raise v.0 j ∙ v.1.places; value = value } in
                let at_i : get_or both i 0 ≡ get_or v.0 i 0 = raise-other v.0 j i (λ e. absurd (omega (arith, found.1, e))) in
                let at_j : get_or both j 0 ≡ get_or v.0 j 0 + 1 = raise-same v.0 j (omega (arith, in_range, v.1.places)) in
                let same = class-step (IsFactorization G n) x both f g (j, h, omega (arith, at_j)) in
                elim (descend b i (omega (arith, found.1, l)) both g (omega (arith, at_i, v.2))) [
                  | inl e ↦ inl e
                  | inr w ↦ inr (w.0, w.1, w.2, class-then (IsFactorization G n) x both w.0 same w.3)
                ]
            | inr none ↦ inl (
              record {
                place = j;
                after_first = after;
                in_range = in_range;
                rest = rest;
                entry = record { member = member; residue = refl; least = λ y e q. none 0 after ((number-vertex G rest 0 long).1 (y, e, q)) };
                sum = total;
              },
              none,
            )
          ]
    ]

    -- both vectors with place 0 positive share it
    pub betti-early : All (λ g. 1 ≤ g) G → HasTwoClasses (IsFactorization G n) → IsEarly
    betti-early positive h = elim (cases_eq n 0) [
      | inl none ↦ absurd (no_classes_of_zero G positive n none h)
      | inr some ↦
          let above : 0 < n = omega arith in
          let i = some-positive G n h.0 above h.2 in
          let j = some-positive G n h.1 above h.3 in
          elim (descend (i.0 + 1) i.0 (omega arith) h.0 h.2 i.1) [
            | inl c ↦ c
            | inr a ↦ elim (descend (j.0 + 1) j.0 (omega arith) h.1 h.3 j.1) [
              | inl c ↦ c
              | inr b ↦ absurd (h.4 (class-then (IsFactorization G n) h.0 a.0 h.1 a.3
                  (class-then (IsFactorization G n) a.0 b.0 h.1 (class-step (IsFactorization G n) a.0 b.0 a.1 b.1 (0, a.2, b.2))
                  (class-back (IsFactorization G n) h.1 b.0 b.3))))
            ]
          ]
    ]
