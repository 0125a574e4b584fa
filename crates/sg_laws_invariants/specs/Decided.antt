-- Conditions that are decided.
use Rattle.std.specs.Prelude.{ℕ, ◌+◌, ◌≤◌, ◌⊎◌}

-- the condition holds, or it does not
abbrev pub Decided : Type 0 → Type 0
Decided P = P ⊎ ¬ P

-- P has 0 and the sums of its numbers, has all from some number on, and says of each number whether it has it
pub record IsNumericalSet (P : ℕ → Type 0) : Type 0 where
  pub decided : (n : ℕ) → Decided (P n)
  pub zero_in : P 0
  pub sums : (a b : ℕ) → P a → P b → P (a + b)
  pub from : ℕ
  pub all : (n : ℕ) → from ≤ n → P n
