-- The rows that make a semigroup.
use Rattle.std.specs.Prelude.{◌⊎◌, ◌<ℤ◌, ◌*ℤ◌, ℕ, ℤ, pos, List, unsigned_abs}
use Rattle.sg_defs.specs.Membership.{IsMember, IsIntegerMember}
use Rattle.sg_apery.specs.Classes.{IsAboveEntry}
use Rattle.sg_apery.specs.Conditions.{IsInBoth}
use Rattle.sg_apery.specs.Fundamental.{DividesNone}
use Rattle.sg_apery.specs.Modular.{IsModular, IsProportional}
use Rattle.sg_apery.specs.Limits.{MODULUS_LIMIT}
use Rattle.sg_rows.specs.Order.{Row}
use Rattle.sg_rows.specs.Values.{generates}
use Rattle.sg_rows_constructors.specs.Integers.{naturals, AreBelow, Generate, IsNoEntry, AreGaps, IsEntryOrAbove, AreSmallElements, AreApery, AreWithin, AreFundamental}

-- the naturals that are at least the entry of their residue class
abbrev pub apery_list_row : List ℤ → Row
apery_list_row zs = record (generates (IsAboveEntry (naturals zs))) { bad = ¬ AreApery zs }

-- the naturals that divide no entry
abbrev pub fundamental_gaps_row : List ℤ → Row
fundamental_gaps_row zs = record (generates (DividesNone (naturals zs))) { size = ¬ AreWithin zs; bad = ¬ AreFundamental zs }

-- the naturals outside of the list
abbrev pub gaps_row : List ℤ → Row
gaps_row zs = record (generates (IsNoEntry zs)) { bad = ¬ AreGaps zs }

-- the sums of entries
abbrev pub generators_row : List ℤ → Row
generators_row zs = record (generates (IsMember (naturals zs))) { size = ¬ AreBelow zs; bad = ¬ Generate zs }

-- the entries, and all above the greatest
abbrev pub small_elements_row : List ℤ → Row
small_elements_row zs = record (generates (IsEntryOrAbove zs)) { bad = ¬ AreSmallElements zs }

-- the naturals x with a x mod b at most x
abbrev pub modular_row : ℤ → ℤ → Row
modular_row a b = record (generates (IsModular (unsigned_abs a) (unsigned_abs b))) { size = pos MODULUS_LIMIT <ℤ b; bad = (a <ℤ pos 1) ⊎ (b <ℤ pos 1) }

-- the naturals x with a x mod b at most c x
abbrev pub proportional_row : ℤ → ℤ → ℤ → Row
proportional_row a b c =
    record (generates (IsProportional (unsigned_abs a) (unsigned_abs b) (unsigned_abs c))) { size = pos MODULUS_LIMIT <ℤ b; bad = (a <ℤ pos 1) ⊎ (b <ℤ pos 1) ⊎ (c <ℤ pos 1) }

-- the members of both
abbrev pub intersection_row : List ℕ → List ℕ → Row
intersection_row G H = generates (IsInBoth G H)

-- the naturals whose product with d is a member
abbrev pub quotient_row : List ℕ → ℤ → Row
quotient_row G d = record (generates (λ n. IsIntegerMember G (d *ℤ pos n))) { bad = d <ℤ pos 1 }
