-- Relative ideals of a numerical semigroup, by membership of every integer.
use Rattle.std.specs.Prelude.{◌≡◌, ◌≢◌, ℕ, zero, suc, ℤ, pos, ◌+ℤ◌, ◌-ℤ◌, ◌<ℤ◌, List, Contains, AllPairs}
use Rattle.sg_defs.specs.Membership.{IsIntegerMember}
use Rattle.sg_defs.specs.Invariants.{IsFrobenius}

-- a relative ideal by the minimal lists of its ambient semigroup and of its own generators
pub record RelativeIdeal : Type 0 where
  pub ambient : List ℕ
  pub generators : List ℤ

-- x is a generator and a member of the ambient semigroup
abbrev pub IsIdealMember : List ℕ → List ℤ → ℤ → Type 0
IsIdealMember G I x = (g : ℤ) × Contains I g × IsIntegerMember G (x -ℤ g)

-- a member of the one and a member of the other
abbrev pub IsInSum : (ℤ → Type 0) → (ℤ → Type 0) → ℤ → Type 0
IsInSum P Q x = (y z : ℤ) × P y × Q z × (x ≡ y +ℤ z)

-- what moves all of Q into P
abbrev pub IsInDifference : (ℤ → Type 0) → (ℤ → Type 0) → ℤ → Type 0
IsInDifference P Q x = (y : ℤ) → Q y → P (x +ℤ y)

-- a sum of k members
abbrev pub IsInMultiple : ℕ → (ℤ → Type 0) → ℤ → Type 0
IsInMultiple zero P x = x ≡ pos 0
IsInMultiple (suc k) P x = IsInSum P (IsInMultiple k P) x

abbrev pub IsInTranslate : ℤ → (ℤ → Type 0) → ℤ → Type 0
IsInTranslate a P x = P (x -ℤ a)

-- x is such that the Frobenius number minus x is no member
abbrev pub IsInCanonical : List ℕ → ℤ → Type 0
IsInCanonical G x = (f : ℤ) × IsFrobenius G f × (IsIntegerMember G (f -ℤ x) → ⊥)

-- the members but 0
abbrev pub IsInMaximal : List ℕ → ℤ → Type 0
IsInMaximal G x = (x ≢ pos 0) × IsIntegerMember G x

-- ascending, and the difference of no two entries is a member
pub record IsMinimalIdeal (G : List ℕ) (I : List ℤ) : Type 0 where
  pub ascending : AllPairs (λ x y. x <ℤ y) I
  pub needed : (x y : ℤ) → Contains I x → Contains I y → x ≢ y → IsIntegerMember G (x -ℤ y) → ⊥
