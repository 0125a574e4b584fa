-- Vectors of naturals, and what they do place by place.
use Rattle.std.specs.Prelude.{◌≡◌, ℕ, ◌+◌, ◌-◌, ◌*◌, ◌<◌, ◌≤◌, ◌⊎◌, min, max, List, [], ◌∷◌, length, slice_index, sum, AllPairs, Contains, ◌↔◌}

-- z1 g1 + .. + zk gk
abbrev pub value_of : List ℕ → List ℕ → ℕ
value_of [] zs = 0
value_of (g ∷ gs) [] = 0
value_of (g ∷ gs) (z ∷ zs) = z * g + value_of gs zs

-- the sum, place by place
abbrev pub plus : List ℕ → List ℕ → List ℕ
plus [] ys = []
plus (x ∷ xs) [] = []
plus (x ∷ xs) (y ∷ ys) = (x + y) ∷ plus xs ys

-- the difference, place by place, and 0 where it would be negative
abbrev pub minus : List ℕ → List ℕ → List ℕ
minus [] ys = []
minus (x ∷ xs) [] = []
minus (x ∷ xs) (y ∷ ys) = (x - y) ∷ minus xs ys

-- the lesser number at each place
abbrev pub meet : List ℕ → List ℕ → List ℕ
meet [] ys = []
meet (x ∷ xs) [] = []
meet (x ∷ xs) (y ∷ ys) = min x y ∷ meet xs ys

-- x times each place
abbrev pub scale : ℕ → List ℕ → List ℕ
scale x [] = []
scale x (y ∷ ys) = (x * y) ∷ scale x ys

-- no place of the first is above that of the second
abbrev pub IsBelow : List ℕ → List ℕ → Type 0
IsBelow xs ys = (length xs ≡ length ys) × ((k : ℕ) → slice_index xs k ≤ slice_index ys k)

-- at the first place that differs the first has the lesser number
abbrev pub IsLexBelow : List ℕ → List ℕ → Type 0
IsLexBelow [] ys = ⊥
IsLexBelow (x ∷ xs) [] = ⊥
IsLexBelow (x ∷ xs) (y ∷ ys) = (x < y) ⊎ ((x ≡ y) × IsLexBelow xs ys)

-- with the common part taken away from both, the greater of the two lengths
abbrev pub distance : List ℕ → List ℕ → ℕ
distance x y = max (sum (minus x (meet x y))) (sum (minus y (meet x y)))

-- the list is strictly descending lexicographically, and holds exactly the vectors of the set
pub record ListsDescending (V : List ℕ → Type 0) (l : List (List ℕ)) : Type 0 where
  pub descending : AllPairs (λ x y. IsLexBelow y x) l
  pub exactly : (z : List ℕ) → Contains l z ↔ V z

-- the same in ascending order
pub record ListsAscending (V : List ℕ → Type 0) (l : List (List ℕ)) : Type 0 where
  pub ascending : AllPairs (λ x y. IsLexBelow x y) l
  pub exactly : (z : List ℕ) → Contains l z ↔ V z
