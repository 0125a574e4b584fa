-- The elasticity of a numerical semigroup.
use Rattle.std.specs.Prelude.{◌≡◌, ℕ, ◌<◌, ◌≤◌, ◌*◌, List, sum}
use Rattle.std.specs.Int.{IsGcd}
use Rattle.sg_defs.specs.Membership.{IsFactorization}

-- p / q in lowest terms is the greatest quotient of two lengths of one element above 0
pub record IsElasticity (G : List ℕ) (p q : ℕ) : Type 0 where
  pub positive : 0 < q
  pub lowest : IsGcd p q 1
  pub bound : (n : ℕ) (x y : List ℕ) → 0 < n → IsFactorization G n x → IsFactorization G n y → q * sum x ≤ p * sum y
  pub reached : (n : ℕ) × (0 < n) × (x y : List ℕ) × IsFactorization G n x × IsFactorization G n y × (q * sum x ≡ p * sum y)
