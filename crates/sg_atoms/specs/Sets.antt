-- Lists of different vectors, to which one is added.
use Rattle.std.specs.Prelude.{◌≡◌, ◌≢◌, ℕ, ◌⊎◌, List, [], ◌∷◌, ◌++◌, length, Contains, AllPairs}

-- no vector stands there twice
abbrev pub AreDifferent : List (List ℕ) → Type 0
AreDifferent vectors = AllPairs (λ x y. x ≢ y) vectors

-- v was there, or stands last
abbrev pub IsAdded : List (List ℕ) → List ℕ → List (List ℕ) → Type 0
IsAdded old v new = (Contains old v × (new ≡ old)) ⊎ ((Contains old v → ⊥) × (new ≡ old ++ v ∷ []))

-- all have as many places
abbrev pub HaveOneLength : List (List ℕ) → Type 0
HaveOneLength vectors = AllPairs (λ x y. length x ≡ length y) vectors
