-- The least lengths of classes, from the least lengths of numbers.
use Rattle.std.proofs.Common.{◌≡◌, ℕ, zero, suc, ◌+◌, ◌-◌, ◌<◌, ◌≤◌, List, [], ◌∷◌, ◌++◌, length, take, get_or, sum, min, refl, sym, subst, ◌∙◌, inl, inr, arith}
use Rattle.std.specs.Prelude.{Contains, All}
use Rattle.std.proofs.lemmas.Bool.{cases_lt}
use Rattle.std.proofs.lemmas.List.{get_or_default}
use Rattle.std.proofs.lemmas.List.Elements.{Contains-append_left, Contains-append_right, Contains-append_cases}
use Rattle.sg_defs.specs.Listings.{Lists}
use Rattle.sg_defs.specs.Membership.{IsFactorization, IsMember}
use Rattle.sg_nonunique.specs.Classes.{IsSameClass, HasTwoClasses}
use Rattle.sg_nonunique.specs.Places.{raise, lower}
use Rattle.sg_nonunique.proofs.PlaceLemmas.{inside, length-raise, length-lower, raise-same, value_of-raise, value_of-lower, sum-raise, sum-lower}
use Rattle.sg_laws_finite.proofs.ElementLemmas.{here}
use Rattle.sg_laws_families.specs.PlaceGraph.{AreConnected, IsVertex}
use Rattle.sg_laws_families.proofs.ClassLemmas.{class-end}
use Rattle.sg_laws_families.proofs.PlaceClasses.{class-by_places, number-vertex}
use Rattle.sg_factor.specs.LengthTables.{IsLeastLength}
use Rattle.sg_betti.specs.Components.{AreComponents}
use Rattle.sg_betti.proofs.GraphLemmas.{connected-back, connected-end, connected-then, some-positive}
use Rattle.sg_degrees.specs.Greatest.{IsGreatestOver}
use Rattle.sg_degrees.specs.Lengths.{AreLeastLengths, IsLongestClass, IsShortestAt}
use Rattle.sg_degrees.proofs.GreatestLemmas.{one-item, take-next}

-- ---- at one place

-- a place of the graph is one of a generator
pub vertex-inside : (G : List ℕ) (n i : ℕ) → IsVertex (IsFactorization G n) i → i < length G
vertex-inside G n i v = omega (arith, inside v.0 i v.2, v.1.places)

-- and that generator can be taken from the number
pub vertex-fits : (G : List ℕ) (n i : ℕ) → IsVertex (IsFactorization G n) i → get_or G i 0 ≤ n
vertex-fits G n i v = let m = (number-vertex G n i (vertex-inside G n i v)).0 v in omega (arith, m.1)

-- the entry of what is left is the least length with this place positive
pub shortest-read : (G least : List ℕ) (n i : ℕ) → AreLeastLengths G least → n < length least → IsVertex (IsFactorization G n) i →
    IsShortestAt (IsFactorization G n) (i ∷ []) (get_or least (n - get_or G i 0) 0)
shortest-read G least n i lengths small v =
    let within = vertex-inside G n i v in
    let m = (number-vertex G n i within).0 v in
    by (get_or least (n - get_or G i 0) 0) (lengths (n - get_or G i 0) (omega (arith, small))) (subst (IsMember G) (let e : m.0 ≡ n - get_or G i 0 = omega (arith, m.1) in e) m.2)
  where
    by : (k : ℕ) → IsLeastLength G (n - get_or G i 0) k → IsMember G (n - get_or G i 0) → IsShortestAt (IsFactorization G n) (i ∷ []) k
    by zero none member = absurd (none member)
    by (suc k) l member =
        let within = vertex-inside G n i v in
        let fits = vertex-fits G n i v in
        let z = l.0.0 in
        let f = l.0.1 in
        let long : i < length z = omega (arith, within, f.places) in
        record {
          place = i;
          listed = here i [];
          vector = raise z i;
          member = record { places = length-raise z i ∙ f.places; value = omega (arith, value_of-raise G z i within f.places, f.value, fits) };
          positive = omega (arith, raise-same z i long);
          is_length = omega (arith, sum-raise z i long, l.0.2);
          least = λ j x c p h.
              let q : 0 < get_or x i 0 = subst (λ a. 0 < get_or x a 0) (sym (one-item i j c)) h in
              let rest : IsFactorization G (n - get_or G i 0) (lower x i) = record { places = length-lower x i ∙ p.places; value = omega (arith, value_of-lower G x i p.places q, p.value) } in
              omega (arith, l.1 (sum (lower x i)) (lower x i, rest, refl), sum-lower x i q);
        }

-- ---- at the places of a row

-- one place more
pub shortest-more : (V : List ℕ → Type 0) (xs : List ℕ) (y a b : ℕ) → IsShortestAt V xs a → IsShortestAt V (y ∷ []) b → IsShortestAt V (xs ++ y ∷ []) (min a b)
shortest-more V xs y a b h k = elim (cases_lt b a) [
  | inl less ↦ record {
    place = k.place;
    listed = Contains-append_right xs (y ∷ []) k.place k.listed;
    vector = k.vector;
    member = k.member;
    positive = k.positive;
    is_length = omega (arith, k.is_length, less);
    least = least;
  }
  | inr more ↦ record {
    place = h.place;
    listed = Contains-append_left xs (y ∷ []) h.place h.listed;
    vector = h.vector;
    member = h.member;
    positive = h.positive;
    is_length = omega (arith, h.is_length, more);
    least = least;
  }
]
  where
    least : (i : ℕ) (x : List ℕ) → Contains (xs ++ y ∷ []) i → V x → 0 < get_or x i 0 → min a b ≤ sum x
    least i x c v p = elim (Contains-append_cases xs (y ∷ []) i c) [
      | inl before ↦ omega (arith, h.least i x before v p)
      | inr last ↦ omega (arith, k.least i x last v p)
    ]

-- the first place of a row
pub shortest-first : (V : List ℕ → Type 0) (row : List ℕ) (a : ℕ) → 0 < length row → IsShortestAt V (get_or row 0 0 ∷ []) a → IsShortestAt V (take 1 row) a
shortest-first V row a some h = subst (λ r. IsShortestAt V r a) (sym (take-next row 0 0 some)) h

-- one place more of a row
pub shortest-next : (V : List ℕ → Type 0) (row : List ℕ) (i a b : ℕ) → i < length row → IsShortestAt V (take i row) a → IsShortestAt V (get_or row i 0 ∷ []) b →
    IsShortestAt V (take (i + 1) row) (min a b)
shortest-next V row i a b within h k = subst (λ r. IsShortestAt V r (min a b)) (sym (take-next row i 0 within)) (shortest-more V (take i row) (get_or row i 0) a b h k)

-- ---- over all rows

-- each place of a component is one of the graph
pub row-vertices : (V : List ℕ → Type 0) (rows : List (List ℕ)) (r : List ℕ) → AreComponents V rows → Contains rows r → All (IsVertex V) r
row-vertices V rows r c there =
    let lists : Lists (AreConnected V (get_or r 0 0)) r = subst (λ s. Lists (AreConnected V (get_or s 0 0)) s) there.2 (c.connected there.0 r there.1) in
    λ k d l. connected-end V (get_or r 0 0) (get_or r k d) ((lists.exactly (get_or r k d)).0 (k, l, get_or_default r k (get_or r k d) d l))

-- and each has one
pub row-some : (V : List ℕ → Type 0) (rows : List (List ℕ)) (r : List ℕ) → AreComponents V rows → Contains rows r → 0 < length r
row-some V rows r c there = subst (λ s. 0 < length s) there.2 (c.not_empty there.0 r there.1)

-- the greatest of the least lengths at the components is that of the classes
pub longest-from_rows : (G : List ℕ) (n : ℕ) (rows : List (List ℕ)) (N : ℕ) → 0 < n → AreComponents (IsFactorization G n) rows → HasTwoClasses (IsFactorization G n) →
    IsGreatestOver (IsShortestAt (IsFactorization G n)) rows N → IsLongestClass (IsFactorization G n) N
longest-from_rows G n rows N above c two h = elim h.reached [
  | inl none ↦ record { bound = bound; vector = two.0; member = two.2; reached = λ a s. omega (arith, none) }
  | inr some ↦ record {
    bound = bound;
    vector = some.2.vector;
    member = some.2.member;
    reached = λ a s.
        let k = some.2 in
        let v = class-end (IsFactorization G n) k.vector a s in
        let i = some-positive G n a above v in
        let path = (class-by_places (IsFactorization G n) k.vector a k.place i.0 k.member v k.positive i.1).0 s in
        k.least i.0 a (onward some.0 k.place i.0 some.1 k.listed path) v i.1;
  }
]
  where
    lists : (r : List ℕ) → Contains rows r → Lists (AreConnected (IsFactorization G n) (get_or r 0 0)) r
    lists r there = subst (λ s. Lists (AreConnected (IsFactorization G n) (get_or s 0 0)) s) there.2 (c.connected there.0 r there.1)

    -- what is connected with a place of a row is in it
    onward : (r : List ℕ) (i j : ℕ) → Contains rows r → Contains r i → AreConnected (IsFactorization G n) i j → Contains r j
    onward r i j there at path = ((lists r there).exactly j).1 (connected-then (IsFactorization G n) (get_or r 0 0) i j (((lists r there).exactly i).0 at) path)

    bound : (x : List ℕ) → IsFactorization G n x → (a : List ℕ) × IsSameClass (IsFactorization G n) x a × (sum a ≤ N)
    bound x v =
        let i = some-positive G n x above v in
        let w = (c.whole i.0).0 (x, v, i.1) in
        let b = h.bound w.0 w.1 in
        let k = b.1 in
        let root = get_or w.0 0 0 in
        let path = connected-then (IsFactorization G n) i.0 root k.place (connected-back (IsFactorization G n) root i.0 (((lists w.0 w.1).exactly i.0).0 w.2)) (((lists w.0 w.1).exactly k.place).0 k.listed) in
        (k.vector, (class-by_places (IsFactorization G n) x k.vector i.0 k.place v k.member i.1 k.positive).1 path, omega (arith, k.is_length, b.2))
