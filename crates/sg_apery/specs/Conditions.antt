-- Which naturals each constructor's semigroup has, and when each refusal comes.
pub use Rattle.sg_small.specs.Sets.{IsInSmall, IsOutside, IsNotClosed, IsClosedSet}
use Rattle.std.specs.Prelude.{◌≡◌, List, ℕ, ◌*◌, ◌<◌, ◌⊎◌, length, Contains}
use Rattle.sg_defs.specs.Membership.{IsMember, Generates}
use Rattle.sg_classes.specs.Classes.{IsAboveEntry, IsKunz}
use Rattle.sg_classes.specs.Fit.{IsTooLarge}
use Rattle.sg_apery.specs.declared.fault.TableFault.{TableFault}
use Rattle.sg_apery.specs.declared.fault.TableFault.TheVariants.{BadArgument, TooLarge, Memory}

-- no Apery list, or that of a semigroup past the limits
abbrev pub IsAperyRefused : List ℕ → TableFault → Type 0
IsAperyRefused list BadArgument = IsKunz list → ⊥
IsAperyRefused list TooLarge = IsKunz list × IsTooLarge (IsAboveEntry list)
IsAperyRefused list (Memory e) = Unit {0}

-- a member of both
abbrev pub IsInBoth : List ℕ → List ℕ → ℕ → Type 0
IsInBoth G H n = IsMember G n × IsMember H n

-- the product with d is a member
abbrev pub IsInQuotient : List ℕ → ℕ → ℕ → Type 0
IsInQuotient G d n = IsMember G (d * n)

-- a quotient by 0, or one that is past the limits
abbrev pub IsQuotientRefused : List ℕ → ℕ → TableFault → Type 0
IsQuotientRefused G d BadArgument = d ≡ 0
IsQuotientRefused G d TooLarge = (0 < d) × IsTooLarge (IsInQuotient G d)
IsQuotientRefused G d (Memory e) = Unit {0}

-- numbers that are not closed under sums, or a semigroup past the limits
abbrev pub IsClosedRefused : (ℕ → Type 0) → TableFault → Type 0
IsClosedRefused P BadArgument = IsNotClosed P
IsClosedRefused P TooLarge = IsClosedSet P × IsTooLarge P
IsClosedRefused P (Memory e) = Unit {0}

-- 0 is an entry, and the sums of two numbers of the set are in it
abbrev pub AreSmallAccepted : List ℕ → Type 0
AreSmallAccepted list = Contains list 0 × IsClosedSet (IsInSmall list)

-- no entries, or 0 is none, or numbers that are not closed under sums; then a semigroup past the limits
abbrev pub AreSmallRefused : List ℕ → TableFault → Type 0
AreSmallRefused list BadArgument = (length list ≡ 0) ⊎ (Contains list 0 → ⊥) ⊎ IsNotClosed (IsInSmall list)
AreSmallRefused list TooLarge = AreSmallAccepted list × IsTooLarge (IsInSmall list)
AreSmallRefused list (Memory e) = Unit {0}

-- the naturals outside the list are no numerical semigroup, or one past the limits
abbrev pub AreGapsRefused : List ℕ → TableFault → Type 0
AreGapsRefused list BadArgument = (M : List ℕ) → Generates (IsOutside list) M → ⊥
AreGapsRefused list TooLarge = IsTooLarge (IsOutside list)
AreGapsRefused list (Memory e) = Unit {0}
