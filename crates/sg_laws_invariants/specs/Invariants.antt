-- What a numerical semigroup has.
use Rattle.std.specs.Prelude.{ℕ, ℤ, ◌<◌, List}
use Rattle.sg_defs.specs.Apery.{IsApery}
use Rattle.sg_defs.specs.Listings.{Lists, ListsIntegers}
use Rattle.sg_defs.specs.Membership.{IsMember, Generates, IsMultiplicity}
use Rattle.sg_defs.specs.Invariants.{IsFrobenius, IsConductor, IsGap, IsGenus, AreSmallElements, IsPseudoFrobenius, IsSpecialGap, IsFundamentalGap, IsType}

-- a minimal list, an Apery list modulo each member above 0, and each of the invariants
pub record HasInvariants (G : List ℕ) : Type 0 where
  pub minimal : (M : List ℕ) × Generates (IsMember G) M
  pub apery : (n : ℕ) → 0 < n → IsMember G n → (t : List ℕ) × IsApery G n t
  pub multiplicity : (m : ℕ) × IsMultiplicity G m
  pub frobenius : (f : ℤ) × IsFrobenius G f
  pub conductor : (c : ℕ) × IsConductor G c
  pub gaps : (l : List ℕ) × Lists (IsGap G) l
  pub genus : (g : ℕ) × IsGenus G g
  pub small_elements : (l : List ℕ) × AreSmallElements G l
  pub fundamental_gaps : (l : List ℕ) × Lists (IsFundamentalGap G) l
  pub pseudo_frobenius : (l : List ℤ) × ListsIntegers (IsPseudoFrobenius G) l
  pub special_gaps : (l : List ℤ) × ListsIntegers (IsSpecialGap G) l
  pub type : (n : ℕ) × IsType G n
