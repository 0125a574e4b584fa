-- The tame degree exists: minimal vectors have values up to a bound, so they are among finitely many.
use Rattle.std.proofs.Common.{◌≡◌, ℕ, zero, suc, ◌+◌, ◌-◌, ◌<◌, ◌≤◌, List, [], ◌∷◌, ◌++◌, length, get_or, sum, ap, subst, inl, inr, arith}
use Rattle.std.specs.Prelude.{◌⊎◌, ◌↔◌, All, Contains}
use Rattle.std.proofs.lemmas.Bool.{cases_lt, cases_eq}
use Rattle.std.proofs.lemmas.List.Elements.{Contains-append_left, Contains-append_right, Contains-append_cases}
use Rattle.sg_defs.specs.Membership.{IsFactorization, IsMember, IsNumericalSemigroup}
use Rattle.sg_defs.specs.Vectors.{value_of}
use Rattle.sg_defs.proofs.DecidedLemmas.{member-decided}
use Rattle.sg_defs.proofs.ListLemmas.{contains-cases}
use Rattle.sg_defs.proofs.VectorLemmas.{value_of-zeros}
use Rattle.sg_nonunique.specs.Omega.{IsAbove}
use Rattle.sg_nonunique.proofs.SumLemmas.{zero_or_positive}
use Rattle.sg_laws_finite.specs.Listing.{all_factorizations}
use Rattle.sg_laws_finite.proofs.ElementLemmas.{contains-nil, here, later}
use Rattle.sg_laws_finite.proofs.FactorizationLemmas.{factorizations-listed}
use Rattle.sg_laws_finite.proofs.KeepLemmas.{keep, keep-exactly}
use Rattle.sg_laws_finite.proofs.NumberLemmas.{below, below-exactly, some-below}
use Rattle.sg_laws_finite.proofs.PartialLemmas.{place-below_sum}
use Rattle.sg_laws_invariants.proofs.BoundLemmas.{members-from}
use Rattle.sg_omega.specs.Minimal.{IsMinimalAbove}
use Rattle.sg_omega.proofs.MinimalLemmas.{IsLowerable, here-minimal, lowerable-decided, minimal-below}
use Rattle.sg_tame.specs.Minimal.{IsGreatestLeastDistance, IsLeastDistance}
use Rattle.sg_tame.specs.Tame.{IsTame}
use Rattle.sg_tame.proofs.LeastDistances.{least_distance-exists, tame-from_greatest}
use Rattle.sg_tame.proofs.MinimalLemmas.{one-tame}

-- a relation that gives each item of a list a number gives some item the greatest
greatest-related : {A : Type 0} (R : A → ℕ → Type 0) (y : A) (xs : List A) → ((x : A) → Contains (y ∷ xs) x → (d : ℕ) × R x d) →
    (N : ℕ) × ((x : A) × Contains (y ∷ xs) x × R x N) × ((x : A) → Contains (y ∷ xs) x → (d : ℕ) × R x d × (d ≤ N))
greatest-related R y [] has =
    let d = has y (here y []) in (
      d.0,
      (y, here y [], d.1),
      λ x h. elim (contains-cases y [] x h) [
        | inl e ↦ (d.0, subst (λ v. R v d.0) e d.1, omega arith)
        | inr none ↦ absurd (contains-nil x none)
      ],
    )
greatest-related R y (w ∷ xs) has =
    let d = has y (here y (w ∷ xs)) in
    let g = greatest-related R w xs (λ x h. has x (later y (w ∷ xs) x h)) in
    elim (cases_lt g.0 d.0) [
      | inl less ↦ (
        d.0,
        (y, here y (w ∷ xs), d.1),
        λ x h. elim (contains-cases y (w ∷ xs) x h) [
          | inl e ↦ (d.0, subst (λ v. R v d.0) e d.1, omega arith)
          | inr rest ↦ let b = g.2 x rest in (b.0, b.1, omega (arith, b.2, less))
        ],
      )
      | inr more ↦ (
        g.0,
        (g.1.0, later y (w ∷ xs) g.1.0 g.1.1, g.1.2),
        λ x h. elim (contains-cases y (w ∷ xs) x h) [
          | inl e ↦ (d.0, subst (λ v. R v d.0) e d.1, more)
          | inr rest ↦ g.2 x rest
        ],
      )
    ]

module _ (G : List ℕ) (positive : All (λ g. 1 ≤ g) G) (n : ℕ) where
  -- whether a vector is minimal above n is decided
  minimal-decided : (z : List ℕ) → IsMinimalAbove G n z ⊎ ¬ IsMinimalAbove G n z
  minimal-decided z = elim (cases_eq (length z) (length G)) [
    | inr other ↦ inr (λ m. other m.places)
    | inl e ↦ elim (cases_lt (value_of G z) n) [
      | inl less ↦ inr (λ m. omega (arith, m.value, less))
      | inr more ↦
          let v = value_of G z - n in
          let f : value_of G z ≡ n + v = omega arith in
          elim (member-decided G v) [
            | inr gap ↦ inr (λ m. gap (subst (IsMember G) (let t : m.rest ≡ v = omega (arith, m.value) in t) m.member))
            | inl member ↦ elim (some-below (IsLowerable G v z) (lowerable-decided G n v z) (length z)) [
              | inl found ↦ inr (λ m. m.minimal found.0 (v - get_or G found.0 0) found.2.0 (omega (arith, m.value, found.2.1)) found.2.2)
              | inr none ↦ inl (here-minimal G n z v e member f none)
            ]
          ]
    ]
  ]

  -- those with a rest below b are listed
  gather : (b : ℕ) → (l : List (List ℕ)) × ((z : List ℕ) → Contains l z ↔ (IsMinimalAbove G n z × (value_of G z < n + b)))
  gather zero = ([], λ z. ((λ h. absurd (contains-nil z h)), (λ h. absurd (omega (arith, h.0.value, h.1)))))
  gather (suc b) =
      let before = gather b in
      let Q = IsMinimalAbove G n in
      let here_listed = factorizations-listed G (n + b) positive in
      let exactly = keep-exactly Q minimal-decided (IsFactorization G (n + b)) (all_factorizations G (n + b)) here_listed.exactly in
      let l = keep Q minimal-decided (all_factorizations G (n + b)) in (
        l ++ before.0,
        λ z. (
          (λ h. elim (Contains-append_cases l before.0 z h) [
            | inl first ↦ let p = (exactly z).0 first in (p.1, omega (arith, p.0.value))
            | inr rest ↦ let p = (before.1 z).0 rest in (p.0, omega (arith, p.1))
          ]),
          (λ h. elim (cases_lt (value_of G z) (n + b)) [
            | inl less ↦ Contains-append_right l before.0 z ((before.1 z).1 (h.0, less))
            | inr more ↦ Contains-append_left l before.0 z ((exactly z).1 (record { places = h.0.places; value = omega (arith, h.1, more) }, h.0))
          ]),
        ),
      )

  -- where all numbers from c on are members
  module _ (c : ℕ) (all : (k : ℕ) → c ≤ k → IsMember G k) where
    rest-bounded : (z : List ℕ) (m : IsMinimalAbove G n z) → m.rest < c + sum G + 1
    rest-bounded z m = elim (zero_or_positive z) [
      | inl none ↦ omega (arith, m.value, ap (value_of G) none, value_of-zeros G (length z))
      | inr some ↦ elim (cases_lt m.rest (c + get_or G some.0 0)) [
        | inl less ↦ omega (arith, less, place-below_sum G some.0)
        | inr more ↦
            let y = m.rest - get_or G some.0 0 in
            absurd (m.minimal some.0 y some.1 (omega (arith, more)) (all y (omega (arith, more))))
      ]
    ]

    pub some-minimal : (z : List ℕ) × IsMinimalAbove G n z
    some-minimal =
        let h = all (n + c) (omega arith) in
        let above : IsAbove G n h.0 = (h.1.places, (c, all c (omega arith), h.1.value)) in
        let m = minimal-below G n h.0 above in
        (m.0, m.2)

    pub minimal-listed : (l : List (List ℕ)) × ((z : List ℕ) → Contains l z ↔ IsMinimalAbove G n z)
    minimal-listed =
        let g = gather (c + sum G + 1) in
        (g.0, λ z. ((λ h. ((g.1 z).0 h).0), (λ m. (g.1 z).1 (m, omega (arith, m.value, rest-bounded z m)))))

-- N is the greatest least distance for place i
record IsGreatestAt (G : List ℕ) (i N : ℕ) : Type 0 where
  pub reached : (z : List ℕ) × IsMinimalAbove G (get_or G i 0) z × IsLeastDistance G i z N
  pub bound : (z : List ℕ) → IsMinimalAbove G (get_or G i 0) z → (d : ℕ) × IsLeastDistance G i z d × (d ≤ N)

module _ (G : List ℕ) (s : IsNumericalSemigroup G) where
  greatest_at-exists : (i : ℕ) → i < length G → (N : ℕ) × IsGreatestAt G i N
  greatest_at-exists i l =
      let m = members-from G s in
      let all = minimal-listed G s.positive (get_or G i 0) m.0 m.1 in
      first (some-minimal G s.positive (get_or G i 0) m.0 m.1) all.0 all.1
    where
      first : (z : List ℕ) × IsMinimalAbove G (get_or G i 0) z → (zs : List (List ℕ)) → ((z : List ℕ) → Contains zs z ↔ IsMinimalAbove G (get_or G i 0) z) → (N : ℕ) × IsGreatestAt G i N
      first some [] is = absurd (contains-nil some.0 ((is some.0).1 some.1))
      first some (z ∷ zs) is =
          let g = greatest-related (λ y d. IsLeastDistance G i y d) z zs (λ y h. least_distance-exists G s.positive i y l ((is y).0 h)) in (
            g.0,
            record { reached = (g.1.0, (is g.1.0).0 g.1.1, g.1.2); bound = λ y m. g.2 y ((is y).1 m) },
          )

  greatest_distance-exists : (N : ℕ) × IsGreatestLeastDistance G N
  greatest_distance-exists = first (below (length G)) (below-exactly (length G))
    where
      first : (is' : List ℕ) → ((i : ℕ) → Contains is' i ↔ (i < length G)) → (N : ℕ) × IsGreatestLeastDistance G N
      first [] exactly = absurd (contains-nil 0 ((exactly 0).1 s.not_empty))
      first (j ∷ js) exactly =
          let g = greatest-related (IsGreatestAt G) j js (λ i h. greatest_at-exists i ((exactly i).0 h)) in
          let top = g.1.2.reached in (
            g.0,
            record {
              bound = λ i d z l m is.
                  let at = g.2 i ((exactly i).1 l) in
                  let b = at.1.bound z m in
                  let r = b.1.reached in
                  omega (arith, is.least r.0 r.1 r.2, r.3, b.2, at.2);
              reached = (g.1.0, (exactly g.1.0).0 g.1.1, (top.0, top.1, top.2));
            },
          )

  pub tame-exists : (N : ℕ) × IsTame G N
  tame-exists = let g = greatest_distance-exists in (g.0, tame-from_greatest G s.positive g.0 g.1)

  -- the tame degree is reached by a minimal vector
  pub greatest-from_tame : (N : ℕ) → IsTame G N → IsGreatestLeastDistance G N
  greatest-from_tame N t =
      let g = greatest_distance-exists in
      subst (IsGreatestLeastDistance G) (one-tame G g.0 N (tame-from_greatest G s.positive g.0 g.1) t) g.1
