-- The greatest of the numbers of some items.
use Rattle.std.specs.Prelude.{◌≡◌, ℕ, ◌≤◌, ◌⊎◌, List, Contains}

-- each item of the list has a number P that is at most N, and one has N, or N is 0
pub record IsGreatestOver {A : Type 0} (P : A → ℕ → Type 0) (l : List A) (N : ℕ) : Type 0 where
  pub bound : (x : A) → Contains l x → (M : ℕ) × P x M × (M ≤ N)
  pub reached : (N ≡ 0) ⊎ ((x : A) × Contains l x × P x N)
