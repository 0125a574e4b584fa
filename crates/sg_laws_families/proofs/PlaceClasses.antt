-- The classes of a set of vectors are the components of a graph on the places.
use Rattle.std.proofs.Common.{◌≡◌, ◌≢◌, ℕ, ◌+◌, ◌<◌, List, [], ◌∷◌, length, get_or, refl, sym, subst, ◌∙◌, arith}
use Rattle.std.specs.Prelude.{◌↔◌}
use Rattle.sg_defs.specs.Vectors.{value_of}
use Rattle.sg_defs.specs.Membership.{IsFactorization, IsMember}
use Rattle.sg_nonunique.specs.Places.{raise, lower}
use Rattle.sg_nonunique.specs.Walks.{IsWalk}
use Rattle.sg_nonunique.specs.Classes.{Share, IsSameClass}
use Rattle.sg_nonunique.proofs.PlaceLemmas.{length-raise, length-lower, raise-same, raise-other, lower-other, value_of-raise, value_of-lower}
use Rattle.sg_nonunique.proofs.WalkLemmas.{joined-step, joined-then}
use Rattle.sg_laws_families.specs.PlaceGraph.{IsVertex, IsEdge, AreConnected}
use Rattle.sg_laws_families.proofs.ClassLemmas.{class-step, class-then}

module _ (V : List ℕ → Type 0) where
  edge-step : (i j : ℕ) → IsEdge V i j → AreConnected V i j
  edge-step i j e = joined-step (IsVertex V) (IsEdge V) i j (e.0, e.1, e.2) (e.0, e.1, e.3) e

  -- a walk through vectors is a path through places
  connected-from_walk : (ps : List (List ℕ)) (x y : List ℕ) (i j : ℕ) → 0 < get_or x i 0 → 0 < get_or y j 0 → IsWalk V Share x ps y → AreConnected V i j
  connected-from_walk [] x y i j p q w = edge-step i j (x, w.0, p, subst (λ v. 0 < get_or v j 0) (sym w.1) q)
  connected-from_walk (z ∷ ps) x y i j p q w =
      let s = w.1 in
      joined-then (IsVertex V) (IsEdge V) i s.0 j (edge-step i s.0 (x, w.0, p, s.1)) (connected-from_walk ps z y s.0 j s.2 q w.2)

  -- and a path through places is one through vectors
  class-from_path : (ks : List ℕ) (x y : List ℕ) (i j : ℕ) → V x → V y → 0 < get_or x i 0 → 0 < get_or y j 0 → IsWalk (IsVertex V) (IsEdge V) i ks j → IsSameClass V x y
  class-from_path [] x y i j v w p q path = class-step V x y v w (i, p, subst (λ k. 0 < get_or y k 0) (sym path.1) q)
  class-from_path (k ∷ ks) x y i j v w p q path =
      let e = path.1 in
      class-then V x e.0 y (class-step V x e.0 v e.1 (i, p, e.2)) (class-from_path ks e.0 y k j e.1 w e.3 q path.2)

  -- two vectors are in one class exactly where a positive place of the one is connected with one of the other
  pub class-by_places : (x y : List ℕ) (i j : ℕ) → V x → V y → 0 < get_or x i 0 → 0 < get_or y j 0 → IsSameClass V x y ↔ AreConnected V i j
  class-by_places x y i j v w p q = (
    (λ s. connected-from_walk s.0 x y i j p q s.1),
    (λ c. class-from_path c.0 x y i j v w p q c.1),
  )

-- ---- the graph of a number: membership of what is left

-- place i is positive in some factorization exactly where n without generator i is a member
pub number-vertex : (G : List ℕ) (n i : ℕ) → i < length G → IsVertex (IsFactorization G n) i ↔ ((m : ℕ) × (m + get_or G i 0 ≡ n) × IsMember G m)
number-vertex G n i inside_g = (
  (λ h.
      let f = h.1 in
      let low : IsFactorization G (value_of G (lower h.0 i)) (lower h.0 i) = record { places = length-lower h.0 i ∙ f.places; value = refl } in
      (value_of G (lower h.0 i), value_of-lower G h.0 i f.places h.2 ∙ f.value, (lower h.0 i, low))),
  (λ h.
      let z = h.2 in
      let f = z.1 in
      let high : IsFactorization G n (raise z.0 i) =
      record { places = length-raise z.0 i ∙ f.places; value = omega (arith, value_of-raise G z.0 i inside_g f.places, f.value, h.1) } in
      (raise z.0 i, high, omega (arith, raise-same z.0 i (omega (arith, inside_g, f.places))))),
)

-- two different places are positive in one exactly where n without both generators is one
pub number-edge : (G : List ℕ) (n i j : ℕ) → i < length G → j < length G → i ≢ j → IsEdge (IsFactorization G n) i j ↔ ((m : ℕ) × (m + get_or G i 0 + get_or G j 0 ≡ n) × IsMember G m)
number-edge G n i j in_i in_j other = (
  (λ h.
      let f = h.1 in
      let low = lower h.0 i in
      let len : length low ≡ length G = length-lower h.0 i ∙ f.places in
      let at_j : 0 < get_or low j 0 = omega (arith, h.3, lower-other h.0 i j (λ e. other (sym e))) in
      let lowest = lower low j in
      let g : IsFactorization G (value_of G lowest) lowest = record { places = length-lower low j ∙ len; value = refl } in
      (value_of G lowest, omega (arith, value_of-lower G h.0 i f.places h.2, value_of-lower G low j len at_j, f.value), (lowest, g))),
  (λ h.
      let z = h.2 in
      let f = z.1 in
      let one = raise z.0 i in
      let len : length one ≡ length G = length-raise z.0 i ∙ f.places in
      let both = raise one j in
      let g : IsFactorization G n both =
      record { places = length-raise one j ∙ len; value = omega (arith, value_of-raise G z.0 i in_i f.places, value_of-raise G one j in_j len, f.value, h.1) } in
      let at_i : get_or both i 0 ≡ get_or z.0 i 0 + 1 = raise-other one j i other ∙ raise-same z.0 i (omega (arith, in_i, f.places)) in
      (both, g, omega (arith, at_i), omega (arith, raise-same one j (omega (arith, in_j, len))))),
)
