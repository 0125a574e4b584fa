-- What is counted for a presentation of the semigroup of [2] and [3]: 14 pairs, and 2, 3 and 7 vectors.
use Rattle.std.proofs.Common.{◌≡◌, ◌≢◌, ℕ, zero, suc, ◌+◌, ◌*◌, ◌<◌, ◌≤◌, List, [], ◌∷◌, ◌++◌, length, get_or, map, refl, sym, ap, subst, ◌∙◌, inl, inr, arith}
use Rattle.std.specs.Prelude.{◌⊎◌, ◌↔◌, All, AllPairs, Contains}
use Rattle.std.proofs.lemmas.List.Elements.{Contains-append_left, Contains-append_right, Contains-append_cases}
use Rattle.sg_defs.specs.Vectors.{ListsDescending}
use Rattle.sg_nonunique.specs.Costs.{Counted, grown, partial, IsCounted, IsPartial}
use Rattle.sg_nonunique.specs.Counts.{Exceeds}
use Rattle.sg_nonunique.specs.Equations.{IsGrown}
use Rattle.sg_laws_finite.specs.Listed.{IsListing}
use Rattle.sg_laws_finite.proofs.CountLemmas.{exceeds-from_listing, listing-from_exceeds, listing-from_ascending, listing-from_descending}
use Rattle.sg_laws_finite.proofs.ElementLemmas.{contains-map, from-map, pairs-append, pairs-map}
use Rattle.sg_nonunique_samples.proofs.CostSamples.{atom_values, partial-six, partial-two, partial-three}
use Rattle.sg_nonunique_samples.proofs.EquationSamples.{columns}
use Rattle.sg_nonunique_samples.proofs.GrownPairs.{pairs}
use Rattle.sg_nonunique_samples.proofs.GrownSamples.{grown-pairs}

abbrev A : List (List ℕ)
A = (2 ∷ []) ∷ (3 ∷ []) ∷ []

abbrev vectors_two : List (List ℕ)
vectors_two = (1 ∷ 0 ∷ []) ∷ (0 ∷ 0 ∷ []) ∷ []

abbrev vectors_three : List (List ℕ)
vectors_three = (1 ∷ 0 ∷ []) ∷ (0 ∷ 1 ∷ []) ∷ (0 ∷ 0 ∷ []) ∷ []

abbrev vectors_six : List (List ℕ)
vectors_six = (3 ∷ 0 ∷ []) ∷ (2 ∷ 0 ∷ []) ∷ (1 ∷ 1 ∷ []) ∷ (1 ∷ 0 ∷ []) ∷ (0 ∷ 2 ∷ []) ∷ (0 ∷ 1 ∷ []) ∷ (0 ∷ 0 ∷ []) ∷ []

abbrev at_two : List Counted
at_two = map (partial (2 ∷ [])) vectors_two

abbrev at_three : List Counted
at_three = map (partial (3 ∷ [])) vectors_three

abbrev at_six : List Counted
at_six = map (partial (6 ∷ [])) vectors_six

abbrev counted : List Counted
counted = map grown pairs ++ (at_two ++ (at_three ++ at_six))

grown-same : (p q : List ℕ) → grown p ≡ grown q → p ≡ q
grown-same p q e = cc

partial-same : (u v x y : List ℕ) → partial u x ≡ partial v y → (u ≡ v) × (x ≡ y)
partial-same u v x y e = (cc, cc)

grown-not_partial : (p v z : List ℕ) → grown p ≡ partial v z → ⊥
grown-not_partial p v z e = cc

-- the items of one value, in a list of the vectors
at-value : (n : ℕ) (l : List (List ℕ)) → ListsDescending (IsPartial 1 A (n ∷ [])) l → AllPairs (λ x y. x ≢ y) (map (partial (n ∷ [])) l)
at-value n l lists = pairs-map (λ x y. x ≢ y) (λ x y. x ≢ y) (partial (n ∷ [])) (λ x y other e. other (partial-same (n ∷ []) (n ∷ []) x y e).1) l
    (listing-from_descending (IsPartial 1 A (n ∷ [])) l lists).different

values-apart : (m n : ℕ) (l k : List (List ℕ)) → m ≢ n → (x y : Counted) → Contains (map (partial (m ∷ [])) l) x → Contains (map (partial (n ∷ [])) k) y → x ≢ y
values-apart m n l k other x y h i e =
    let p = from-map (partial (m ∷ [])) l x h in
    let q = from-map (partial (n ∷ [])) k y i in
    let f = partial-same (m ∷ []) (n ∷ []) p.0 q.0 (sym p.1 ∙ e ∙ q.1) in
    other (ap (λ v. get_or v 0 0) f.0)

grown-apart : (m : ℕ) (l : List (List ℕ)) (x y : Counted) → Contains (map grown pairs) x → Contains (map (partial (m ∷ [])) l) y → x ≢ y
grown-apart m l x y h i e =
    let p = from-map grown pairs x h in
    let q = from-map (partial (m ∷ [])) l y i in
    grown-not_partial p.0 (m ∷ []) q.0 (sym p.1 ∙ e ∙ q.1)

vectors-different : AllPairs (λ x y. x ≢ y) (at_two ++ (at_three ++ at_six))
vectors-different = pairs-append (λ x y. x ≢ y) at_two (at_three ++ at_six) (at-value 2 vectors_two partial-two)
    (pairs-append (λ x y. x ≢ y) at_three at_six (at-value 3 vectors_three partial-three) (at-value 6 vectors_six partial-six) (values-apart 3 6 vectors_three vectors_six (λ e. omega arith)))
    (λ x y h k. elim (Contains-append_cases at_three at_six y k) [
      | inl three ↦ values-apart 2 3 vectors_two vectors_three (λ e. omega arith) x y h three
      | inr six ↦ values-apart 2 6 vectors_two vectors_six (λ e. omega arith) x y h six
    ])

all-different : AllPairs (λ x y. x ≢ y) counted
all-different = pairs-append (λ x y. x ≢ y) (map grown pairs) (at_two ++ (at_three ++ at_six))
    (pairs-map (λ x y. x ≢ y) (λ x y. x ≢ y) grown (λ x y other e. other (grown-same x y e)) pairs (listing-from_ascending (IsGrown 1 columns) pairs grown-pairs).different)
    vectors-different
    (λ x y h k. elim (Contains-append_cases at_two (at_three ++ at_six) y k) [
      | inl two ↦ grown-apart 2 vectors_two x y h two
      | inr rest ↦ elim (Contains-append_cases at_three at_six y rest) [
        | inl three ↦ grown-apart 3 vectors_three x y h three
        | inr six ↦ grown-apart 6 vectors_six x y h six
      ]
    ])

-- a vector at the value of a minimal pair
vector-counted : (n : ℕ) (l : List (List ℕ)) → ListsDescending (IsPartial 1 A (n ∷ [])) l → ((n ∷ [] ≡ 2 ∷ []) ⊎ ((n ∷ [] ≡ 3 ∷ []) ⊎ (n ∷ [] ≡ 6 ∷ []))) →
    (x : Counted) → Contains (map (partial (n ∷ [])) l) x → IsCounted 1 A x
vector-counted n l lists is x h =
    let p = from-map (partial (n ∷ [])) l x h in
    subst (IsCounted 1 A) (sym p.1) ((atom_values (n ∷ [])).1 is, (lists.exactly p.0).0 p.2)

listed-counted : (x : Counted) → Contains counted x → IsCounted 1 A x
listed-counted x h = elim (Contains-append_cases (map grown pairs) (at_two ++ (at_three ++ at_six)) x h) [
  | inl pair ↦ let p = from-map grown pairs x pair in subst (IsCounted 1 A) (sym p.1) ((grown-pairs.exactly p.0).0 p.2)
  | inr rest ↦ elim (Contains-append_cases at_two (at_three ++ at_six) x rest) [
    | inl two ↦ vector-counted 2 vectors_two partial-two (inl refl) x two
    | inr more ↦ elim (Contains-append_cases at_three at_six x more) [
      | inl three ↦ vector-counted 3 vectors_three partial-three (inr (inl refl)) x three
      | inr six ↦ vector-counted 6 vectors_six partial-six (inr (inr refl)) x six
    ]
  ]
]

at-two_listed : (z : List ℕ) → IsPartial 1 A (2 ∷ []) z → Contains counted (partial (2 ∷ []) z)
at-two_listed z f =
    Contains-append_right (map grown pairs) (at_two ++ (at_three ++ at_six)) (partial (2 ∷ []) z)
    (Contains-append_left at_two (at_three ++ at_six) (partial (2 ∷ []) z) (contains-map (partial (2 ∷ [])) vectors_two z ((partial-two.exactly z).1 f)))

at-three_listed : (z : List ℕ) → IsPartial 1 A (3 ∷ []) z → Contains counted (partial (3 ∷ []) z)
at-three_listed z f =
    Contains-append_right (map grown pairs) (at_two ++ (at_three ++ at_six)) (partial (3 ∷ []) z)
    (Contains-append_right at_two (at_three ++ at_six) (partial (3 ∷ []) z)
    (Contains-append_left at_three at_six (partial (3 ∷ []) z) (contains-map (partial (3 ∷ [])) vectors_three z ((partial-three.exactly z).1 f))))

at-six_listed : (z : List ℕ) → IsPartial 1 A (6 ∷ []) z → Contains counted (partial (6 ∷ []) z)
at-six_listed z f =
    Contains-append_right (map grown pairs) (at_two ++ (at_three ++ at_six)) (partial (6 ∷ []) z)
    (Contains-append_right at_two (at_three ++ at_six) (partial (6 ∷ []) z)
    (Contains-append_right at_three at_six (partial (6 ∷ []) z) (contains-map (partial (6 ∷ [])) vectors_six z ((partial-six.exactly z).1 f))))

counted-listed : (x : Counted) → IsCounted 1 A x → Contains counted x
counted-listed (grown p) h =
    Contains-append_left (map grown pairs) (at_two ++ (at_three ++ at_six)) (grown p) (contains-map grown pairs p ((grown-pairs.exactly p).1 h))
counted-listed (partial v z) h = elim ((atom_values v).0 h.0) [
  | inl e ↦ subst (λ u. Contains counted (partial u z)) (sym e) (at-two_listed z (subst (λ u. IsPartial 1 A u z) e h.1))
  | inr other ↦ elim other [
    | inl e ↦ subst (λ u. Contains counted (partial u z)) (sym e) (at-three_listed z (subst (λ u. IsPartial 1 A u z) e h.1))
    | inr e ↦ subst (λ u. Contains counted (partial u z)) (sym e) (at-six_listed z (subst (λ u. IsPartial 1 A u z) e h.1))
  ]
]

pub above_25 : Exceeds (IsCounted 1 ((2 ∷ []) ∷ (3 ∷ []) ∷ [])) 25
above_25 =
    exceeds-from_listing (IsCounted 1 A) counted 25 (record { different = all-different; exactly = λ x. (listed-counted x, counted-listed x) })
    (let e : length counted ≡ 26 = refl in omega (arith, e))

pub within_26 : Exceeds (IsCounted 1 ((2 ∷ []) ∷ (3 ∷ []) ∷ [])) 26 → ⊥
within_26 h =
    let e : length counted ≡ 26 = refl in
    omega (arith, e, listing-from_exceeds (IsCounted 1 A) counted 26 counted-listed h)
