-- Elements with two classes, by a search from one place.
use Rattle.std.proofs.Common.{◌≡◌, ℕ, ◌+◌, ◌<◌, ◌≤◌, List, [], ◌∷◌, ◌++◌, length, get_or, refl, sym, subst, ◌∙◌, inl, inr, arith}
use Rattle.std.specs.Prelude.{◌⊎◌, ◌↔◌, All, Contains}
use Rattle.std.proofs.lemmas.Bool.{cases_lt}
use Rattle.sg_defs.specs.Apery.{IsApery}
use Rattle.sg_defs.specs.Membership.{IsFactorization, IsMember}
use Rattle.sg_nonunique.specs.Classes.{HasTwoClasses}
use Rattle.sg_laws_families.specs.PlaceGraph.{AreConnected, IsVertex}
use Rattle.sg_laws_families.proofs.BettiLemmas.{betti-candidate, no_classes_of_zero}
use Rattle.sg_laws_families.proofs.PlaceClasses.{class-by_places, number-vertex}
use Rattle.sg_defs.specs.Listings.{Lists}
use Rattle.sg_laws_finite.proofs.ElementLemmas.{all-from_contained, contains-nil, here}
use Rattle.sg_betti.specs.Links.{IsParted}
use Rattle.sg_betti.specs.Sums.{IsFree, IsFreeSum, IsSumBelow}
use Rattle.sg_betti.proofs.CandidateLemmas.{candidate-entry, candidate-listed}
use Rattle.sg_betti.proofs.EarlyLemmas.{betti-early}
use Rattle.sg_betti.proofs.GraphLemmas.{connected-back, connected-then, some-positive}
use Rattle.sg_betti.proofs.SetLemmas.{set-pushed}

-- the later generator of a sum is a place of its graph
pub sum-vertex : (G : List ℕ) (rest j n : ℕ) → j < length G → IsMember G rest → n ≡ rest + get_or G j 0 → IsVertex (IsFactorization G n) j
sum-vertex G rest j n l m e = (number-vertex G n j l).1 (rest, sym e, m)

-- a place that was not reached is in another class
pub two-from_left : (G : List ℕ) (n root k : ℕ) (reached left : List ℕ) → IsVertex (IsFactorization G n) root → IsParted G n root reached left → Contains left k → HasTwoClasses (IsFactorization G n)
two-from_left G n root k reached left v p h =
    let w = (p.outside k).0 h in
    let z = w.0 in
    (v.0, z.0, v.1, z.1, λ s. w.1 ((class-by_places (IsFactorization G n) v.0 z.0 root k v.1 z.1 v.2 z.2).0 s))

-- where each place was reached, all factorizations are in one class
pub one-from_none : (G : List ℕ) (n root : ℕ) (reached left : List ℕ) → 0 < n → IsParted G n root reached left → left ≡ [] → HasTwoClasses (IsFactorization G n) → ⊥
one-from_none G n root reached left above p none h =
    let i = some-positive G n h.0 above h.2 in
    let j = some-positive G n h.1 above h.3 in
    h.4 ((class-by_places (IsFactorization G n) h.0 h.1 i.0 j.0 h.2 h.3 i.1 j.1).1
    (connected-then (IsFactorization G n) i.0 root j.0 (connected-back (IsFactorization G n) root i.0 (reached_by i.0 (h.0, h.2, i.1))) (reached_by j.0 (h.1, h.3, j.1))))
  where
    reached_by : (k : ℕ) → IsVertex (IsFactorization G n) k → AreConnected (IsFactorization G n) root k
    reached_by k v = elim (p.whole k v) [
      | inl one ↦ (p.inside k).0 one
      | inr there ↦ absurd (contains-nil k (subst (λ l. Contains l k) none there))
    ]

-- what was found before, and the sums so far that have two classes
abbrev pub IsOldOrSum : (ℕ → Type 0) → List ℕ → ℕ → ℕ → ℕ → Type 0
IsOldOrSum Old G rest i n = Old n ⊎ (HasTwoClasses (IsFactorization G n) × IsSumBelow G rest i n)

module _ (Old : ℕ → Type 0) (G : List ℕ) (rest i n : ℕ) (positive : 0 < i) (is : n ≡ rest + get_or G i 0) where
  -- the next sum has two classes and was put last
  pub sums-taken : (l now : List ℕ) → ((m : ℕ) → Contains l m ↔ IsOldOrSum Old G rest i m) → HasTwoClasses (IsFactorization G n) → now ≡ l ++ n ∷ [] →
      (m : ℕ) → Contains now m ↔ IsOldOrSum Old G rest (i + 1) m
  sums-taken l now before two made = set-pushed (IsOldOrSum Old G rest i) (IsOldOrSum Old G rest (i + 1)) l now n before made (λ m. (
    (λ h. elim h [
      | inl old ↦ inl (inl old)
      | inr sum ↦ let s = sum.1 in elim (cases_lt s.0 i) [
        | inl less ↦ inl (inr (sum.0, (s.0, s.1, less, s.3)))
        | inr more ↦ let e : s.0 ≡ i = omega (arith, s.2) in inr (is ∙ sym (subst (λ j. m ≡ rest + get_or G j 0) e s.3))
      ]
    ]),
    (λ h. elim h [
      | inl earlier ↦ elim earlier [
        | inl old ↦ inl old
        | inr sum ↦ let s = sum.1 in inr (sum.0, (s.0, s.1, omega (arith, s.2), s.3))
      ]
      | inr e ↦ inr (subst (λ t. HasTwoClasses (IsFactorization G t)) e two, (i, positive, omega arith, sym e ∙ is))
    ]),
  ))

  -- it has one class
  pub sums-passed : (l : List ℕ) → ((m : ℕ) → Contains l m ↔ IsOldOrSum Old G rest i m) → (HasTwoClasses (IsFactorization G n) → ⊥) →
      (m : ℕ) → Contains l m ↔ IsOldOrSum Old G rest (i + 1) m
  sums-passed l before one m = (
    (λ h. elim ((before m).0 h) [
      | inl old ↦ inl old
      | inr sum ↦ let s = sum.1 in inr (sum.0, (s.0, s.1, omega (arith, s.2), s.3))
    ]),
    (λ h. (before m).1 (elim h [
      | inl old ↦ inl old
      | inr sum ↦ let s = sum.1 in elim (cases_lt s.0 i) [
        | inl less ↦ inr (sum.0, (s.0, s.1, less, s.3))
        | inr more ↦
            let e : s.0 ≡ i = omega (arith, s.2) in
            let same : m ≡ n = subst (λ j. m ≡ rest + get_or G j 0) e s.3 ∙ sym is in
            absurd (one (subst (λ t. HasTwoClasses (IsFactorization G t)) same sum.0))
      ]
    ])),
  )

-- below the place behind that of the first generator that can be taken
pub free-taken : (G : List ℕ) (rest i j : ℕ) → 0 < i → IsFree G rest i → IsVertex (IsFactorization G rest) i → j < i + 1 ↔ IsFree G rest j
free-taken G rest i j positive free v = (
  (λ h. λ k p l. free k p (omega (arith, h, l))),
  (λ h. elim (cases_lt i j) [
    | inl less ↦ absurd (h i positive less v)
    | inr more ↦ omega (arith, more)
  ]),
)

-- the sums up to the first generator that can be taken
pub sums-free : (G : List ℕ) (rest end n : ℕ) → end ≤ length G → ((j : ℕ) → 0 < j → j < length G → j < end ↔ IsFree G rest j) → IsSumBelow G rest end n ↔ IsFreeSum G rest n
sums-free G rest end n inside exactly = (
  (λ s.
      let l : s.0 < length G = omega (arith, inside, s.2) in
      (s.0, s.1, l, (exactly s.0 s.1 l).0 s.2, s.3)),
  (λ s. (s.0, s.1, (exactly s.0 s.1 s.2).1 s.3, s.4)),
)

-- what was found before, and all such sums
pub sums-whole : (Old : ℕ → Type 0) (G : List ℕ) (rest end n : ℕ) → end ≤ length G → ((j : ℕ) → 0 < j → j < length G → j < end ↔ IsFree G rest j) → (P : Type 0) → P ↔ IsOldOrSum Old G rest end n →
    P ↔ (Old n ⊎ (HasTwoClasses (IsFactorization G n) × IsFreeSum G rest n))
sums-whole Old G rest end n inside exactly P before = (
  (λ h. elim (before.0 h) [
    | inl old ↦ inl old
    | inr sum ↦ inr (sum.0, (sums-free G rest end n inside exactly).0 sum.1)
  ]),
  (λ h. before.1 (elim h [
    | inl old ↦ inl old
    | inr sum ↦ inr (sum.0, (sums-free G rest end n inside exactly).1 sum.1)
  ])),
)

-- n has two classes, and is the sum of one of the first i entries of the list and a later generator
abbrev pub IsFoundBelow : List ℕ → List ℕ → ℕ → ℕ → Type 0
IsFoundBelow G t i n = HasTwoClasses (IsFactorization G n) × ((k : ℕ) × (k < i) × IsFreeSum G (get_or t k 0) n)

-- the sums of one more entry were added
pub found-more : (G t : List ℕ) (i rest : ℕ) (l now : List ℕ) → rest ≡ get_or t i 0 → ((n : ℕ) → Contains l n ↔ IsFoundBelow G t i n) →
    ((n : ℕ) → Contains now n ↔ (Contains l n ⊎ (HasTwoClasses (IsFactorization G n) × IsFreeSum G rest n))) →
    (n : ℕ) → Contains now n ↔ IsFoundBelow G t (i + 1) n
found-more G t i rest l now read before added n = (
  (λ h. elim ((added n).0 h) [
    | inl old ↦ let f = (before n).0 old in (f.0, (f.1.0, omega (arith, f.1.1), f.1.2))
    | inr new ↦ (new.0, (i, omega arith, subst (λ r. IsFreeSum G r n) read new.1))
  ]),
  (λ h. (added n).1 (elim (cases_lt h.1.0 i) [
    | inl less ↦ inl ((before n).1 (h.0, (h.1.0, less, h.1.2)))
    | inr more ↦
        let e : h.1.0 ≡ i = omega (arith, h.1.1) in
        inr (h.0, subst (λ r. IsFreeSum G r n) (sym read) (subst (λ k. IsFreeSum G (get_or t k 0) n) e h.1.2))
  ])),
)

-- all entries of the Apery list were looked at
pub found-all : (G t : List ℕ) (i : ℕ) (l : List ℕ) → All (λ g. 1 ≤ g) G → IsApery G (get_or G 0 0) t → length t ≤ i → ((n : ℕ) → Contains l n ↔ IsFoundBelow G t i n) →
    (n : ℕ) → Contains l n ↔ HasTwoClasses (IsFactorization G n)
found-all G t i l positive a far found n = (
  (λ h. ((found n).0 h).0),
  (λ h.
      let e = betti-early G n positive h in
      let s = candidate-entry G t n positive a e.0 in
      let free : IsFree G (get_or t s.0 0) e.0.place = λ i later l. subst (λ r. ¬ IsVertex (IsFactorization G r) i) (sym s.2) (e.1 i l) in
      (found n).1 (h, (s.0, omega (arith, s.1, far), (e.0.place, e.0.after_first, e.0.in_range, free, omega (arith, s.2, e.0.sum))))),
)

-- where something is left, some place is
pub some-left : (l : List ℕ) → (l ≡ [] → ⊥) → (k : ℕ) × Contains l k
some-left [] none = absurd (none refl)
some-left (x ∷ l) none = (x, here x l)

-- the listed elements are small where the entries and the generators are
pub elements-small : (G t list : List ℕ) (B : ℕ) → All (λ g. 1 ≤ g) G → IsApery G (get_or G 0 0) t → ((i j : ℕ) → i < length t → j < length G → get_or t i 0 + get_or G j 0 < B) →
    Lists (λ n. HasTwoClasses (IsFactorization G n)) list → All (λ n. n < B) list
elements-small G t list B positive a small lists = all-from_contained (λ n. n < B) list (λ n h.
    let c = candidate-listed G t n positive a (betti-candidate G positive n ((lists.exactly n).0 h)) in
    let s : get_or t c.0 0 + get_or G c.1 0 < B = small c.0 c.1 c.2 c.4 in
    omega (arith, s, c.5))

-- at first nothing was added
pub sums-none : (l G : List ℕ) (rest m : ℕ) → Contains l m ↔ IsOldOrSum (Contains l) G rest 1 m
sums-none l G rest m = (
  (λ h. inl h),
  (λ h. elim h [
    | inl old ↦ old
    | inr sum ↦ let s = sum.1 in absurd (omega (arith, s.1, s.2))
  ]),
)

-- nothing was found
pub found-none : (G t l : List ℕ) → l ≡ [] → (n : ℕ) → Contains l n ↔ IsFoundBelow G t 0 n
found-none G t l none n = (
  (λ h. absurd (contains-nil n (subst (λ k. Contains k n) none h))),
  (λ h. absurd (omega (arith, h.1.1))),
)

-- an element with two classes is above 0
pub betti-positive : (G : List ℕ) (n : ℕ) → All (λ g. 1 ≤ g) G → HasTwoClasses (IsFactorization G n) → 0 < n
betti-positive G n positive h = elim (cases_lt 0 n) [
  | inl above ↦ above
  | inr none ↦ absurd (no_classes_of_zero G positive n (let e : n ≡ 0 = omega arith in e) h)
]
