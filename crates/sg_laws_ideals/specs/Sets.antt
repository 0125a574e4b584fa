-- Sets of integers that are ideals.
use Rattle.std.specs.Prelude.{ℕ, ℤ, pos, ◌+ℤ◌, ◌≤ℤ◌, List}
use Rattle.sg_defs.specs.Membership.{IsMember}
use Rattle.sg_ideal.specs.Value.{GeneratesIdeal}
use Rattle.sg_laws_invariants.specs.Decided.{Decided}

-- P has some integer, none below a bound, and with each its sum with each member, and says of each integer whether it has it
pub record IsIdealSet (G : List ℕ) (P : ℤ → Type 0) : Type 0 where
  pub decided : (x : ℤ) → Decided (P x)
  pub some : (x : ℤ) × P x
  pub bound : ℤ
  pub low : (x : ℤ) → P x → bound ≤ℤ x
  pub closed : (x : ℤ) (s : ℕ) → P x → IsMember G s → P (x +ℤ pos s)

-- the integers with P have a minimal list of generators over G
abbrev pub HasIdeal : List ℕ → (ℤ → Type 0) → Type 0
HasIdeal G P = (I : List ℤ) × GeneratesIdeal G P I
