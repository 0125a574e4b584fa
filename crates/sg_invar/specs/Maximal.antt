-- The maximal entries of an Apery list.
use Rattle.std.specs.Prelude.{ℕ, pos, ◌-ℤ◌, ◌%◌, ◌<◌, ◌≤◌, ◌≢◌, ◌↔◌, List, Contains, AllPairs}
use Rattle.sg_defs.specs.Invariants.{IsPseudoFrobenius}
use Rattle.sg_apery.specs.Limits.{APERY_ENTRY_LIMIT}

-- w less the modulus is a pseudo-Frobenius number
abbrev pub IsMaximalEntry : List ℕ → ℕ → ℕ → Type 0
IsMaximalEntry G m w = IsPseudoFrobenius G (pos w -ℤ pos m)

-- the list holds the maximal entries of the first n classes, each once
pub record Collects (G : List ℕ) (m n : ℕ) (l : List ℕ) : Type 0 where
  pub apart : AllPairs (λ v w. v ≢ w) l
  pub small : (w : ℕ) → Contains l w → w ≤ APERY_ENTRY_LIMIT
  pub exactly : (w : ℕ) → Contains l w ↔ ((w % m < n) × IsMaximalEntry G m w)
