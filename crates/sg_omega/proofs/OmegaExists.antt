-- Omega primality exists: minimal vectors have values up to a bound, so they are among finitely many.
use Rattle.std.proofs.Common.{◌≡◌, ℕ, zero, suc, ◌+◌, ◌-◌, ◌<◌, ◌≤◌, List, [], ◌∷◌, ◌++◌, length, get_or, sum, refl, ap, subst, inl, inr, arith}
use Rattle.std.specs.Prelude.{◌⊎◌, ◌↔◌, All, Contains}
use Rattle.std.proofs.lemmas.Bool.{cases_lt, cases_eq}
use Rattle.std.proofs.lemmas.List.Elements.{Contains-append_left, Contains-append_right, Contains-append_cases}
use Rattle.sg_defs.specs.Membership.{IsFactorization, IsMember}
use Rattle.sg_defs.specs.Vectors.{value_of}
use Rattle.sg_defs.proofs.DecidedLemmas.{member-decided}
use Rattle.sg_defs.proofs.VectorLemmas.{value_of-zeros}
use Rattle.sg_nonunique.specs.Omega.{IsAbove, IsOmega, IsOmegaOfSemigroup}
use Rattle.sg_nonunique.proofs.SumLemmas.{zero_or_positive}
use Rattle.sg_laws_finite.specs.Listing.{all_factorizations}
use Rattle.sg_laws_finite.proofs.ElementLemmas.{contains-nil}
use Rattle.sg_laws_finite.proofs.FactorizationLemmas.{factorizations-listed}
use Rattle.sg_laws_finite.proofs.KeepLemmas.{keep, keep-exactly}
use Rattle.sg_laws_finite.proofs.NumberLemmas.{some-below}
use Rattle.sg_laws_finite.proofs.PartialLemmas.{place-below_sum}
use Rattle.sg_laws_finite.proofs.SearchLemmas.{greatest-in}
use Rattle.sg_omega.specs.Minimal.{IsGreatestLength, IsMinimalAbove}
use Rattle.sg_omega.proofs.MinimalLemmas.{IsLowerable, here-minimal, lowerable-decided, minimal-below, omega-from_greatest, one-omega}

module _ (G : List ℕ) (positive : All (λ g. 1 ≤ g) G) (n : ℕ) where
  -- whether a vector is minimal above n is decided
  minimal-decided : (z : List ℕ) → IsMinimalAbove G n z ⊎ ¬ IsMinimalAbove G n z
  minimal-decided z = elim (cases_eq (length z) (length G)) [
    | inr other ↦ inr (λ m. other m.places)
    | inl e ↦ elim (cases_lt (value_of G z) n) [
      | inl less ↦ inr (λ m. omega (arith, m.value, less))
      | inr more ↦
          let v = value_of G z - n in
          let f : value_of G z ≡ n + v = omega arith in
          elim (member-decided G v) [
            | inr gap ↦ inr (λ m. gap (subst (IsMember G) (let t : m.rest ≡ v = omega (arith, m.value) in t) m.member))
            | inl member ↦ elim (some-below (IsLowerable G v z) (lowerable-decided G n v z) (length z)) [
              | inl found ↦ inr (λ m. m.minimal found.0 (v - get_or G found.0 0) found.2.0 (omega (arith, m.value, found.2.1)) found.2.2)
              | inr none ↦ inl (here-minimal G n z v e member f none)
            ]
          ]
    ]
  ]

  -- those with a rest below b are listed
  gather : (b : ℕ) → (l : List (List ℕ)) × ((z : List ℕ) → Contains l z ↔ (IsMinimalAbove G n z × (value_of G z < n + b)))
  gather zero = ([], λ z. ((λ h. absurd (contains-nil z h)), (λ h. absurd (omega (arith, h.0.value, h.1)))))
  gather (suc b) =
      let before = gather b in
      let Q = IsMinimalAbove G n in
      let here_listed = factorizations-listed G (n + b) positive in
      let exactly = keep-exactly Q minimal-decided (IsFactorization G (n + b)) (all_factorizations G (n + b)) here_listed.exactly in
      let l = keep Q minimal-decided (all_factorizations G (n + b)) in (
        l ++ before.0,
        λ z. (
          (λ h. elim (Contains-append_cases l before.0 z h) [
            | inl first ↦ let p = (exactly z).0 first in (p.1, omega (arith, p.0.value))
            | inr rest ↦ let p = (before.1 z).0 rest in (p.0, omega (arith, p.1))
          ]),
          (λ h. elim (cases_lt (value_of G z) (n + b)) [
            | inl less ↦ Contains-append_right l before.0 z ((before.1 z).1 (h.0, less))
            | inr more ↦ Contains-append_left l before.0 z ((exactly z).1 (record { places = h.0.places; value = omega (arith, h.1, more) }, h.0))
          ]),
        ),
      )

  -- where all numbers from c on are members
  module _ (c : ℕ) (all : (k : ℕ) → c ≤ k → IsMember G k) where
    rest-bounded : (z : List ℕ) (m : IsMinimalAbove G n z) → m.rest < c + sum G + 1
    rest-bounded z m = elim (zero_or_positive z) [
      | inl none ↦ omega (arith, m.value, ap (value_of G) none, value_of-zeros G (length z))
      | inr some ↦ elim (cases_lt m.rest (c + get_or G some.0 0)) [
        | inl less ↦ omega (arith, less, place-below_sum G some.0)
        | inr more ↦
            let y = m.rest - get_or G some.0 0 in
            absurd (m.minimal some.0 y some.1 (omega (arith, more)) (all y (omega (arith, more))))
      ]
    ]

    some-minimal : (z : List ℕ) × IsMinimalAbove G n z
    some-minimal =
        let h = all (n + c) (omega arith) in
        let above : IsAbove G n h.0 = (h.1.places, (c, all c (omega arith), h.1.value)) in
        let m = minimal-below G n h.0 above in
        (m.0, m.2)

    greatest-exists : (N : ℕ) × IsGreatestLength G n N
    greatest-exists = first (gather (c + sum G + 1)).0 (gather (c + sum G + 1)).1
      where
        first : (l : List (List ℕ)) → ((z : List ℕ) → Contains l z ↔ (IsMinimalAbove G n z × (value_of G z < n + (c + sum G + 1)))) → (N : ℕ) × IsGreatestLength G n N
        first [] exactly =
            let m = some-minimal in
            absurd (contains-nil m.0 ((exactly m.0).1 (m.1, omega (arith, m.1.value, rest-bounded m.0 m.1))))
        first (y ∷ l) exactly =
            let g = greatest-in sum y l in (
              sum g.0,
              record {
                bound = λ z m. g.2 z ((exactly z).1 (m, omega (arith, m.value, rest-bounded z m)));
                reached = (g.0, ((exactly g.0).0 g.1).0, refl);
              },
            )

    pub omega-exists : (N : ℕ) × IsOmega G n N
    omega-exists = let g = greatest-exists in (g.0, omega-from_greatest G n g.0 g.1)

-- the greatest of those of the generators
pub semigroup_omega-exists : (G : List ℕ) → All (λ g. 1 ≤ g) G → 0 < length G → (c : ℕ) → ((k : ℕ) → c ≤ k → IsMember G k) → (N : ℕ) × IsOmegaOfSemigroup G N
semigroup_omega-exists [] positive long c all = absurd (omega arith)
semigroup_omega-exists (g ∷ G) positive long c all =
    let of = λ (n : ℕ). omega-exists (g ∷ G) positive n c all in
    let top = greatest-in (λ n. (of n).0) g G in (
      (of top.0).0,
      record {
        reached = (top.0, top.1, (of top.0).1);
        greatest = λ h w there is.
            let e = one-omega (g ∷ G) h w (of h).0 is (of h).1 in
            omega (arith, e, top.2 h there);
      },
    )
