-- Relative ideals as contracts see them.
use Rattle.std.specs.Prelude.{◌≡◌, ℕ, zero, suc, ◌+ℤ◌, ◌-◌, ◌<◌, ℤ, pos, negsuc, ◌-ℤ◌, slice_index_or, ◌≤ℤ◌, ◌↔◌, List, length, Contains}
use Rattle.sg_defs.specs.Ideals.{RelativeIdeal, IsIdealMember, IsMinimalIdeal}
pub use Rattle.sg_lawful.specs.Generators.{IsSmall, IsLarge, AreSmall, HasLarge}
use Rattle.sg_classes.specs.declared.limits.TheConstants.{APERY_ENTRY_LIMIT}

-- an ideal as contracts see it
abbrev pub IdealValue : Type 0
IdealValue = RelativeIdeal

-- x is a member of the ideal
abbrev pub IsIn : RelativeIdeal → ℤ → Type 0
IsIn I x = IsIdealMember I.ambient I.generators x

-- a member of both
abbrev pub IsInBoth : (ℤ → Type 0) → (ℤ → Type 0) → ℤ → Type 0
IsInBoth P Q x = P x × Q x

-- an entry that is above no other
pub record IsLeast (I : List ℤ) (x : ℤ) : Type 0 where
  pub listed : Contains I x
  pub below : (y : ℤ) → Contains I y → x ≤ℤ y

-- I is the minimal list of generators of the ideal of the integers with P
pub record GeneratesIdeal (G : List ℕ) (P : ℤ → Type 0) (I : List ℤ) : Type 0 where
  pub not_empty : 0 < length I
  pub minimal : IsMinimalIdeal G I
  pub same : (x : ℤ) → P x ↔ IsIdealMember G I x

-- the ideal of the integers with P over G, all of whose minimal generators are within the limit
pub record IsIdealOf (G : List ℕ) (P : ℤ → Type 0) (I : RelativeIdeal) : Type 0 where
  pub ambient : I.ambient ≡ G
  pub generates : GeneratesIdeal G P I.generators
  pub small : AreSmall I.generators

-- some minimal generator of the ideal of the integers with P is past the limit
abbrev pub HasLargeGenerator : List ℕ → (ℤ → Type 0) → Type 0
HasLargeGenerator G P = (I : List ℤ) × GeneratesIdeal G P I × HasLarge I

-- each lies between -1 and highest, which is no more than an entry of an Apery list
pub record AreWithin (highest : ℤ) (l : List ℤ) : Type 0 where
  pub small : highest ≤ℤ pos APERY_ENTRY_LIMIT
  pub low : (k : ℕ) → k < length l → negsuc 0 ≤ℤ slice_index_or l k (pos 0)
  pub high : (k : ℕ) → k < length l → slice_index_or l k (pos 0) ≤ℤ highest

-- highest less the entries, the last first
pub record IsReflected (highest : ℤ) (l r : List ℤ) : Type 0 where
  pub long : length r ≡ length l
  pub entries : (k : ℕ) → k < length l → slice_index_or r k (pos 0) ≡ highest -ℤ slice_index_or l (length l - 1 - k) (pos 0)

-- the number k times added up
abbrev pub times : ℕ → ℤ → ℤ
times zero x = pos 0
times (suc k) x = x +ℤ times k x
