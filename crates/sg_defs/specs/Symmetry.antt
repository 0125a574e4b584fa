-- Symmetric, pseudo-symmetric and irreducible numerical semigroups.
use Rattle.std.specs.Prelude.{◌≢◌, ℕ, ℤ, ◌+ℤ◌, ◌-ℤ◌, ◌⊎◌, ◌↔◌, List}
use Rattle.sg_defs.specs.Membership.{IsMember, IsIntegerMember, IsNumericalSemigroup, Holds}
use Rattle.sg_defs.specs.Invariants.{IsFrobenius}

-- one of the two facts holds, and not both
pub record ExactlyOne (P Q : Type 0) : Type 0 where
  pub one : P ⊎ Q
  pub apart : P → Q → ⊥

-- of every x and f - x, for the Frobenius number f, exactly one is a member
pub record IsSymmetric (G : List ℕ) : Type 0 where
  pub frobenius : ℤ
  pub is_frobenius : IsFrobenius G frobenius
  pub mirrored : (x : ℤ) → ExactlyOne (IsIntegerMember G x) (IsIntegerMember G (frobenius -ℤ x))

-- the Frobenius number f is twice an integer, and the same holds of every x but that half
pub record IsPseudoSymmetric (G : List ℕ) : Type 0 where
  pub half : ℤ
  pub is_frobenius : IsFrobenius G (half +ℤ half)
  pub mirrored : (x : ℤ) → x ≢ half → ExactlyOne (IsIntegerMember G x) (IsIntegerMember G (half +ℤ half -ℤ x))

-- H is a numerical semigroup that holds all of G and something more
pub record IsProperlyAbove (G H : List ℕ) : Type 0 where
  pub semigroup : IsNumericalSemigroup H
  pub holds : Holds H G
  pub more : (n : ℕ) × IsMember H n × (IsMember G n → ⊥)

-- no two numerical semigroups properly above G meet in it
abbrev pub IsIrreducible : List ℕ → Type 0
IsIrreducible G = (H K : List ℕ) → IsProperlyAbove G H → IsProperlyAbove G K →
    ((n : ℕ) → IsMember G n ↔ (IsMember H n × IsMember K n)) → ⊥

-- two numerical semigroups properly above G meet in it
pub record IsReducible (G : List ℕ) : Type 0 where
  pub first : List ℕ
  pub second : List ℕ
  pub first_above : IsProperlyAbove G first
  pub second_above : IsProperlyAbove G second
  pub meet : (n : ℕ) → IsMember G n ↔ (IsMember first n × IsMember second n)
