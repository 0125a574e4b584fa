-- The rows that make a semigroup have at most one value.
use Rattle.std.proofs.Common.{ℤ, pos, ◌*ℤ◌, List, [], ◌∷◌}
use Rattle.std.specs.Prelude.{unsigned_abs}
use Rattle.sg_defs.specs.Membership.{IsMember, IsIntegerMember}
use Rattle.sg_apery.specs.Classes.{IsAboveEntry}
use Rattle.sg_apery.specs.Conditions.{IsInBoth}
use Rattle.sg_apery.specs.Fundamental.{DividesNone}
use Rattle.sg_apery.specs.Modular.{IsModular, IsProportional}
use Rattle.sg_value.specs.Data.{Items}
use Rattle.sg_value.specs.Plain.{Things}
use Rattle.sg_rows.specs.Asks.{apery_table}
use Rattle.sg_rows.proofs.FormLaws.{of_list_one, of_list_or_integers_one, of_two_integers_one, of_three_integers_one, of_two_semigroups_one, of_semigroup_then_integer_one}
use Rattle.sg_rows.proofs.OneValue.{One, OneValue, semigroup_one}
use Rattle.sg_rows_constructors.specs.Integers.{naturals, IsNoEntry, IsEntryOrAbove}
use Rattle.sg_rows_constructors.specs.Rows.{modular_row, proportional_row, intersection_row, quotient_row}
use Rattle.sg_rows_constructors.specs.Makers.{integers_row, case_of}
use Rattle.sg_rows_constructors.specs.declared.maker.Maker.{Maker}
use Rattle.sg_rows_constructors.specs.declared.maker.Maker.TheVariants.{OfList, OfListOrIntegers, Modular, ProportionallyModular, Intersection, Quotient}
use Rattle.sg_rows_constructors.specs.declared.maker.IntegersMaker.{IntegersMaker}
use Rattle.sg_rows_constructors.specs.declared.maker.IntegersMaker.TheVariants.{ByAperyList, ByFundamentalGaps, ByGaps, ByGenerators, BySmallElements}

integers_one : (m : IntegersMaker) (zs : List ℤ) → One (integers_row m zs).value
integers_one ByAperyList zs = semigroup_one (IsAboveEntry (naturals zs))
integers_one ByFundamentalGaps zs = semigroup_one (DividesNone (naturals zs))
integers_one ByGaps zs = semigroup_one (IsNoEntry zs)
integers_one ByGenerators zs = semigroup_one (IsMember (naturals zs))
integers_one BySmallElements zs = semigroup_one (IsEntryOrAbove zs)

pub maker_one : (m : Maker) (args : Items Things) → OneValue (case_of m args)
maker_one (OfList m) = of_list_one (integers_row m) (integers_one m)
maker_one (OfListOrIntegers m) = of_list_or_integers_one (integers_row m) (integers_one m)
maker_one Modular = of_two_integers_one modular_row (λ a b. semigroup_one (IsModular (unsigned_abs a) (unsigned_abs b)))
maker_one ProportionallyModular = of_three_integers_one proportional_row (λ a b c. semigroup_one (IsProportional (unsigned_abs a) (unsigned_abs b) (unsigned_abs c)))
maker_one Intersection = of_two_semigroups_one (apery_table ∷ []) intersection_row (λ G H. semigroup_one (IsInBoth G H))
maker_one Quotient = of_semigroup_then_integer_one (apery_table ∷ []) quotient_row (λ G d. semigroup_one (λ n. IsIntegerMember G (d *ℤ pos n)))
