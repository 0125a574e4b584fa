-- The invariants of a numerical semigroup, over all integers.
use Rattle.std.specs.Prelude.{◌≡◌, ℕ, ℤ, pos, ◌+ℤ◌, ◌-ℤ◌, ◌<ℤ◌, ◌*◌, ◌<◌, ◌≤◌, List, length}
use Rattle.sg_defs.specs.Listings.{Lists, ListsIntegers, IsCountOf}
use Rattle.sg_defs.specs.Membership.{IsMember, IsIntegerMember}

-- the greatest integer that is no member
pub record IsFrobenius (G : List ℕ) (f : ℤ) : Type 0 where
  pub outside : IsIntegerMember G f → ⊥
  pub above : (x : ℤ) → f <ℤ x → IsIntegerMember G x

-- the Frobenius number and 1
abbrev pub IsConductor : List ℕ → ℕ → Type 0
IsConductor G c = IsFrobenius G (pos c -ℤ pos 1)

-- a natural that is no member
abbrev pub IsGap : List ℕ → ℕ → Type 0
IsGap G n = IsMember G n → ⊥

-- the number of gaps
abbrev pub IsGenus : List ℕ → ℕ → Type 0
IsGenus G g = IsCountOf (IsGap G) g

-- the members up to the conductor
abbrev pub AreSmallElements : List ℕ → List ℕ → Type 0
AreSmallElements G l = (c : ℕ) × IsConductor G c × Lists (λ n. IsMember G n × (n ≤ c)) l

-- no member, but a member once any member above 0 is added
pub record IsPseudoFrobenius (G : List ℕ) (x : ℤ) : Type 0 where
  pub outside : IsIntegerMember G x → ⊥
  pub absorbed : (s : ℕ) → 0 < s → IsMember G s → IsIntegerMember G (x +ℤ pos s)

-- a pseudo-Frobenius number whose double is a member
pub record IsSpecialGap (G : List ℕ) (x : ℤ) : Type 0 where
  pub pseudo_frobenius : IsPseudoFrobenius G x
  pub double : IsIntegerMember G (x +ℤ x)

-- a gap each of whose proper multiples is a member
pub record IsFundamentalGap (G : List ℕ) (n : ℕ) : Type 0 where
  pub gap : IsGap G n
  pub multiples : (k : ℕ) → 2 ≤ k → IsMember G (k * n)

-- the number of pseudo-Frobenius numbers
abbrev pub IsType : List ℕ → ℕ → Type 0
IsType G n = (l : List ℤ) × ListsIntegers (IsPseudoFrobenius G) l × (length l ≡ n)
