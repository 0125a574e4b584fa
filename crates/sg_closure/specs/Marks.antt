-- Sets of naturals by marks: a number is in the set where it is marked or past the marks.
use Rattle.std.specs.Prelude.{◌≡◌, ℕ, ◌+◌, ◌%◌, ◌<◌, ◌≤◌, ◌⊎◌, Bool, true, List, length, slice_index, slice_index_or, Contains}
use Rattle.sg_defs.specs.Membership.{IsMember}
use Rattle.sg_classes.specs.declared.limits.TheConstants.{SPAN_LIMIT}

-- n is marked or past the marks
abbrev pub IsIn : List Bool → ℕ → Type 0
IsIn marks n = slice_index_or marks n true ≡ true

-- w is the least number in the set that leaves the residue i
pub record IsLeastIn (marks : List Bool) (modulus i w : ℕ) : Type 0 where
  pub inside : IsIn marks w
  pub residue : w % modulus ≡ i
  pub least : (n : ℕ) → n % modulus ≡ i → n < w → IsIn marks n → ⊥

-- the same of each entry of a list
pub record AreLeastIn (marks : List Bool) (modulus : ℕ) (list : List ℕ) : Type 0 where
  pub long : length list ≡ modulus
  pub entries : (i : ℕ) → i < modulus → IsLeastIn marks modulus i (slice_index list i)

-- the set has 0 and the sums of its numbers, and holds all of G
pub record IsAbove (G : List ℕ) (marks : List Bool) : Type 0 where
  pub sums : (a b : ℕ) → IsIn marks a → IsIn marks b → IsIn marks (a + b)
  pub holds : (n : ℕ) → IsMember G n → IsIn marks n

-- 0 and the generators are marked, and what is past the marks is a member
pub record AreGeneratorMarks (G : List ℕ) (marks : List Bool) : Type 0 where
  pub not_empty : 0 < length marks
  pub short : length marks ≤ SPAN_LIMIT + 1
  pub past : (n : ℕ) → length marks ≤ n → IsMember G n
  pub long : (g : ℕ) → Contains G g → g < length marks
  pub zero : IsIn marks 0
  pub generators : (g : ℕ) → Contains G g → IsIn marks g
  pub only : (n : ℕ) → n < length marks → IsIn marks n → (n ≡ 0) ⊎ Contains G n
