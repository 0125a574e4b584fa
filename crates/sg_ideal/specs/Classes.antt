-- Sets of naturals that are closed under adding the modulus, by the least number in each residue class.
use Rattle.std.specs.Prelude.{◌≡◌, ℕ, ℤ, pos, ◌+ℤ◌, ◌-ℤ◌, ◌+◌, ◌-◌, ◌*◌, ◌%◌, ◌<◌, ◌≤◌, ◌↔◌, List, length, slice_index, slice_index_or, Contains}
use Rattle.sg_defs.specs.Membership.{AtNatural}
use Rattle.sg_classes.specs.Classes.{IsAboveEntry}
use Rattle.sg_lawful.specs.Lawful.{IsLawfulList}
use Rattle.sg_classes.specs.declared.limits.TheConstants.{APERY_ENTRY_LIMIT, MULTIPLICITY_LIMIT}
use Rattle.sg_ideal.specs.Value.{GeneratesIdeal}
use Rattle.sg_lawful.specs.Generators.{AreSmall}

-- entry i is congruent to i modulo the number of entries, and none is past what an Apery list may hold
pub record AreClasses (t : List ℕ) : Type 0 where
  pub not_empty : 0 < length t
  pub short : length t ≤ MULTIPLICITY_LIMIT
  pub residue : (i : ℕ) → i < length t → slice_index t i % length t ≡ i
  pub small : (i : ℕ) → i < length t → slice_index t i ≤ APERY_ENTRY_LIMIT

-- x is base and a number that is at least its entry
abbrev pub IsFrom : ℤ → List ℕ → ℤ → Type 0
IsFrom base t x = AtNatural (IsAboveEntry t) (x -ℤ base)

-- the list tells the sums of a number of t and the distance of some generator from base
pub record IsSpread (t : List ℕ) (base : ℤ) (I : List ℤ) (list : List ℕ) : Type 0 where
  pub long : length list ≡ length t
  pub classes : AreClasses list
  pub same : (n : ℕ) → IsAboveEntry list n ↔ ((g : ℤ) × Contains I g × IsFrom g t (base +ℤ pos n))

-- the list tells the sums of a number of t and of b, which is added no more than count times
pub record IsReach (t : List ℕ) (b count : ℕ) (list : List ℕ) : Type 0 where
  pub long : length list ≡ length t
  pub classes : AreClasses list
  pub same : (n : ℕ) → IsAboveEntry list n ↔ ((e : ℕ) × (e ≤ count) × (e * b ≤ n) × IsAboveEntry t (n - e * b))

-- t tells the numbers of a set that each generator of G moves into itself, of which 0 is the least
pub record IsIdealTable (G t : List ℕ) : Type 0 where
  pub ambient : IsLawfulList G
  pub classes : AreClasses t
  pub multiplicity : length t ≡ slice_index G 0
  pub zero : slice_index t 0 ≡ 0
  pub closed : (n g : ℕ) → Contains G g → IsAboveEntry t n → IsAboveEntry t (n + g)

-- t tells the numbers of a set that each generator of G moves into itself
pub record IsClosedTable (G t : List ℕ) : Type 0 where
  pub ambient : IsLawfulList G
  pub classes : AreClasses t
  pub multiplicity : length t ≡ slice_index G 0
  pub closed : (n g : ℕ) → Contains G g → IsAboveEntry t n → IsAboveEntry t (n + g)

-- what an ideal keeps: t tells how far the members lie from the least, which is the first generator
pub record IsKept (G : List ℕ) (I : List ℤ) (t : List ℕ) : Type 0 where
  pub table : IsIdealTable G t
  pub small : AreSmall I
  pub generates : GeneratesIdeal G (IsFrom (slice_index_or I 0 (pos 0)) t) I

-- some list tells how far the members lie from the least
abbrev pub HasEntries : List ℕ → List ℤ → Type 0
HasEntries G I = (t : List ℕ) × IsKept G I t

-- entry i is i
pub record IsEveryClass (count : ℕ) (list : List ℕ) : Type 0 where
  pub long : length list ≡ count
  pub entries : (i : ℕ) → i < count → slice_index list i ≡ i

-- list tells what b moves into the set
pub record IsRebased (t : List ℕ) (b : ℕ) (list : List ℕ) : Type 0 where
  pub long : length list ≡ length t
  pub classes : AreClasses list
  pub same : (n : ℕ) → IsAboveEntry list n ↔ IsAboveEntry t (n + b)

-- list tells what the distance of each generator from base moves into the set
pub record IsReduced (t : List ℕ) (base : ℤ) (I : List ℤ) (list : List ℕ) : Type 0 where
  pub long : length list ≡ length t
  pub classes : AreClasses list
  pub same : (n : ℕ) → IsAboveEntry list n ↔ ((g : ℤ) → Contains I g → IsFrom base t (g +ℤ pos n))

-- the least number of the set
pub record IsLeastAbove (t : List ℕ) (least : ℕ) : Type 0 where
  pub above : IsAboveEntry t least
  pub below : (n : ℕ) → IsAboveEntry t n → least ≤ n
  pub small : least ≤ APERY_ENTRY_LIMIT
