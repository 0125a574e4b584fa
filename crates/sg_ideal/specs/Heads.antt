-- The minimal generators of a set of naturals that is told by residue classes.
use Rattle.std.specs.Prelude.{ℕ, ℤ, pos, ◌+ℤ◌, ◌-◌, ◌%◌, ◌<◌, ◌≤◌, ◌≢◌, ◌↔◌, List, length, map, Contains, AllPairs}
use Rattle.sg_classes.specs.Classes.{IsAboveEntry}

-- w less any generator of the semigroup is not in the set
abbrev pub IsFree : List ℕ → List ℕ → ℕ → Type 0
IsFree G t w = (g : ℕ) → Contains G g → g ≤ w → IsAboveEntry t (w - g) → ⊥

-- w is in the set, and free
abbrev pub IsHead : List ℕ → List ℕ → ℕ → Type 0
IsHead G t w = IsAboveEntry t w × IsFree G t w

-- the list holds the heads of the first n classes, each once
pub record CollectsHeads (G t : List ℕ) (n : ℕ) (l : List ℕ) : Type 0 where
  pub apart : AllPairs (λ v w. v ≢ w) l
  pub exactly : (w : ℕ) → Contains l w ↔ ((w % length t < n) × IsHead G t w)

-- base and each entry
abbrev pub raised_by : ℤ → List ℕ → List ℤ
raised_by base l = map (λ h. base +ℤ pos h) l
