-- What holds of a table while many generators lead from entry to entry. Beside it stands for each class a generator
-- that leads to its entry from a member above 0, or 0 where none is known.
use Rattle.std.specs.Prelude.{◌≡◌, ℕ, ◌+◌, ◌-◌, ◌%◌, ◌<◌, ◌≤◌, ◌⊎◌, List, length, slice_index, Contains}
use Rattle.std.specs.List.Sorted.{IsStrictlyIncreasing}
use Rattle.sg_defs.specs.Membership.{IsMember, IsNumericalSemigroup}
use Rattle.sg_classes.specs.Classes.{IsAboveEntry}
use Rattle.sg_tables.specs.declared.spread.TheConstants.{UNREACHED}

-- entry i is a generator, and is not known to be a sum
pub record IsListedAt (G t s : List ℕ) (i : ℕ) : Type 0 where
  pub residue : slice_index t i % length t ≡ i
  pub unmarked : slice_index s i ≡ 0
  pub listed : Contains G (slice_index t i)

-- entry i is the sum of a generator and a member above 0
pub record IsSumAt (G t s : List ℕ) (i : ℕ) : Type 0 where
  pub residue : slice_index t i % length t ≡ i
  pub some : 0 < slice_index s i
  pub summand : Contains G (slice_index s i)
  pub less : slice_index s i < slice_index t i
  pub rest : IsMember G (slice_index t i - slice_index s i)

-- entry 0 is 0, each other is such a member, or UNREACHED where none is known, and no generator is below the entry of its class
pub record AreFound (G t s : List ℕ) : Type 0 where
  pub long : length s ≡ length t
  pub not_empty : 0 < length t
  pub modulus : IsMember G (length t)
  pub zero : slice_index t 0 ≡ 0
  pub entry : (i : ℕ) → 0 < i → i < length t → (slice_index t i ≡ UNREACHED) ⊎ (IsListedAt G t s i ⊎ IsSumAt G t s i)
  pub listed : (j : ℕ) → j < length G → IsAboveEntry t (slice_index G j)

-- no sum is forgotten
pub record IsMarkedMore (old now : List ℕ) : Type 0 where
  pub long : length now ≡ length old
  pub more : (i : ℕ) → 0 < slice_index old i → 0 < slice_index now i

-- the sum of entry i and g is above the entry of its class, or it is that entry and is marked as a sum
abbrev pub IsTold : List ℕ → List ℕ → ℕ → ℕ → Type 0
IsTold t s g i = (slice_index t ((i + g) % length t) < slice_index t i + g) ⊎
    ((slice_index t ((i + g) % length t) ≡ slice_index t i + g) × (0 < slice_index s ((i + g) % length t)))

-- a greater generator than g leads to x + g from a member above 0
pub record IsPassed (G : List ℕ) (x g : ℕ) : Type 0 where
  pub by : ℕ
  pub listed : Contains G by
  pub greater : g < by
  pub less : by < x + g
  pub rest : IsMember G (x + g - by)

-- each generator whose sum with entry i is at most b is told there, or passed over
abbrev pub IsSettled : List ℕ → List ℕ → List ℕ → ℕ → ℕ → Type 0
IsSettled G t s b i = (j : ℕ) → j < length G → slice_index t i + slice_index G j ≤ b → IsTold t s (slice_index G j) i ⊎ IsPassed G (slice_index t i) (slice_index G j)

-- g is the entry of its class, and is not known to be a sum
pub record IsUnmarked (t s : List ℕ) (g : ℕ) : Type 0 where
  pub entry : slice_index t (g % length t) ≡ g
  pub unmarked : slice_index s (g % length t) ≡ 0

-- all entries are settled up to a bound above which no sum lowers an entry or shows that a generator is one
pub record AreSettled (G t s : List ℕ) : Type 0 where
  pub bound : ℕ
  pub top : (i : ℕ) → i < length t → slice_index t i ≤ bound + length t
  pub unmarked : (j : ℕ) → j < length G → IsUnmarked t s (slice_index G j) → slice_index G j ≤ bound
  pub settled : (i : ℕ) → 0 < i → i < length t → IsSettled G t s bound i

-- the generators from which a step leads to no generator, and maybe others
pub record AreTops (G : List ℕ) (step : ℕ) (tops : List ℕ) : Type 0 where
  pub some : 0 < step
  pub ascending : IsStrictlyIncreasing tops
  pub part : (k : ℕ) → k < length tops → Contains G (slice_index tops k)
  pub others : (j : ℕ) → j < length G → Contains tops (slice_index G j) ⊎ Contains G (slice_index G j + step)

-- ascending generators of a numerical semigroup, and their tops
pub record AreGiven (G : List ℕ) (step : ℕ) (tops : List ℕ) : Type 0 where
  pub semigroup : IsNumericalSemigroup G
  pub ascending : IsStrictlyIncreasing G
  pub ends : AreTops G step tops
