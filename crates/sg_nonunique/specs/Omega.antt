-- Omega primality of an element, and of a numerical semigroup.
use Rattle.std.specs.Prelude.{◌≡◌, ℕ, ◌+◌, ◌<◌, ◌≤◌, List, length, sum, Contains}
use Rattle.sg_defs.specs.Membership.{IsMember}
use Rattle.sg_defs.specs.Vectors.{value_of, IsBelow}

-- z has a place for each generator, and its value is n and a member
abbrev pub IsAbove : List ℕ → ℕ → List ℕ → Type 0
IsAbove G n z = (length z ≡ length G) × ((v : ℕ) × IsMember G v × (value_of G z ≡ n + v))

-- below each such vector lies one of length at most N
abbrev pub Serves : List ℕ → ℕ → ℕ → Type 0
Serves G n N = (z : List ℕ) → IsAbove G n z → (y : List ℕ) × IsBelow y z × (sum y ≤ N) × IsAbove G n y

-- the least such N
pub record IsOmega (G : List ℕ) (n N : ℕ) : Type 0 where
  pub serves : Serves G n N
  pub least : (N' : ℕ) → N' < N → Serves G n N' → ⊥

-- the greatest omega primality of a generator
pub record IsOmegaOfSemigroup (G : List ℕ) (N : ℕ) : Type 0 where
  pub reached : (g : ℕ) × Contains G g × IsOmega G g N
  pub greatest : (g w : ℕ) → Contains G g → IsOmega G g w → w ≤ N
