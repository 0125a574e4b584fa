-- The order in which factorizations are listed: the greatest first.
use Rattle.std.specs.Prelude.{ℕ, zero, suc, ◌+◌, ◌-◌, ◌*◌, ◌/◌, min, List, [], ◌∷◌, ◌++◌, map, sum}
use Rattle.sg_defs.specs.Vectors.{minus, scale}

-- the vectors whose first place is below k, where rest c has what stands behind a first place c
unfoldable pub levels : (ℕ → List (List ℕ)) → ℕ → List (List ℕ)
levels rest zero = []
levels rest (suc k) = map (λ z. k ∷ z) (rest k) ++ levels rest k

-- all factorizations of n
unfoldable pub all_factorizations : List ℕ → ℕ → List (List ℕ)
all_factorizations [] zero = [] ∷ []
all_factorizations [] (suc n) = []
all_factorizations (g ∷ gs) n = levels (λ c. all_factorizations gs (n - c * g)) (n / g + 1)

-- how often the vector a fits into v, but no more than b times
abbrev pub copies : ℕ → List ℕ → List ℕ → ℕ
copies b [] v = b
copies b (n ∷ a) [] = b
copies b (zero ∷ a) (m ∷ v) = copies b a v
copies b (suc n ∷ a) (m ∷ v) = min (m / suc n) (copies b a v)

-- all vectors whose value by nonzero vectors A is at most v
unfoldable pub all_partial : List (List ℕ) → List ℕ → List (List ℕ)
all_partial [] v = [] ∷ []
all_partial (a ∷ as') v = levels (λ c. all_partial as' (minus v (scale c a))) (copies (sum v) a v + 1)
