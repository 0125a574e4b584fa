-- Gluings: the minimal generators in two parts, whose greatest common divisors have a least common multiple in both.
use Rattle.std.specs.Prelude.{◌≡◌, ℕ, ◌*◌, ◌^◌, ◌++◌, ◌≤◌, ◌<◌, ◌⊎◌, ◌↔◌, List, length, slice_index, All, AllPairs, Contains}
use Rattle.std.specs.Int.{◌∣◌}
use Rattle.std.specs.List.Sorted.{IsStrictlyIncreasing}
use Rattle.sg_defs.specs.Membership.{IsMember}
use Rattle.sg_defs.specs.Vectors.{IsLexBelow}
use Rattle.sg_nat.specs.Arithmetic.{IsLcm}

-- two parts of a list, each with its greatest common divisor
pub record Split : Type 0 where
  pub left : List ℕ
  pub right : List ℕ
  pub d_left : ℕ
  pub d_right : ℕ

-- d divides each entry, and each number that does divides d
pub record IsGcdOf (A : List ℕ) (d : ℕ) : Type 0 where
  pub divides : All (λ a. d ∣ a) A
  pub greatest : (c : ℕ) → All (λ a. c ∣ a) A → c ∣ d

-- A and B are ascending and not empty, each entry of G stands in just one of them, the first in A
pub record AreParts (G A B : List ℕ) : Type 0 where
  pub left_ascending : IsStrictlyIncreasing A
  pub right_ascending : IsStrictlyIncreasing B
  pub left_not_empty : 0 < length A
  pub right_not_empty : 0 < length B
  pub all : (g : ℕ) → Contains G g ↔ (Contains A g ⊎ Contains B g)
  pub once : (g : ℕ) → Contains A g → Contains B g → ⊥
  pub first : Contains A (slice_index G 0)

-- the least common multiple of the divisors of both parts is a member of each
pub record IsGluing (G : List ℕ) (s : Split) : Type 0 where
  pub parts : AreParts G s.left s.right
  pub divisor_left : IsGcdOf s.left s.d_left
  pub divisor_right : IsGcdOf s.right s.d_right
  pub multiple : ℕ
  pub is_multiple : IsLcm s.d_left s.d_right multiple
  pub in_left : IsMember s.left multiple
  pub in_right : IsMember s.right multiple

-- the part on the left has fewer entries, or as many and is less lexicographically
abbrev pub IsBefore : Split → Split → Type 0
IsBefore s t = (length s.left < length t.left) ⊎ ((length s.left ≡ length t.left) × IsLexBelow s.left t.left)

-- exactly the gluings, in this order
pub record AreGluings (G : List ℕ) (list : List Split) : Type 0 where
  pub ordered : AllPairs IsBefore list
  pub exactly : (s : Split) → Contains list s ↔ IsGluing G s

-- A is ascending, has the first entry of G, and only entries of G
pub record IsChosen (G A : List ℕ) : Type 0 where
  pub ascending : IsStrictlyIncreasing A
  pub first : Contains A (slice_index G 0)
  pub among : (g : ℕ) → Contains A g → Contains G g

-- positive entries with their greatest common divisor
pub record IsSide (A : List ℕ) (d : ℕ) : Type 0 where
  pub positive : All (λ a. 1 ≤ a) A
  pub divisor : IsGcdOf A d
  pub nonzero : 0 < d
  pub small : d < 2 ^ 62

-- the product of the divisors is a member of both parts
abbrev pub IsMet : Split → Type 0
IsMet s = IsMember s.left (s.d_right * s.d_left) × IsMember s.right (s.d_left * s.d_right)

-- what is new are the gluings with this part on the left: one, or none
pub record AddsGluing (G A : List ℕ) (before after : List Split) : Type 0 where
  pub added : List Split
  pub joined : after ≡ before ++ added
  pub at_most_one : length added ≤ 1
  pub exactly : (s : Split) → Contains added s ↔ ((s.left ≡ A) × IsGluing G s)
