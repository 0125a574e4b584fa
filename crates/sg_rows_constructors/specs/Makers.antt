-- The commands that make a semigroup: their names, and which row is whose.
use Rattle.std.specs.Prelude.{ℕ, ℤ, Bool, nat_eq, nat_le, codes, List, [], ◌∷◌, Option}
use Rattle.std.specs.Map.{lookup}
use Rattle.std.specs.Str.{bytes_eq}
use Rattle.sg_value.specs.Data.{Items}
use Rattle.sg_value.specs.Plain.{Things}
use Rattle.sg_rows.specs.Asks.{apery_table}
use Rattle.sg_rows.specs.Order.{Row, Case}
use Rattle.sg_rows.specs.Forms.{of_list, of_list_or_integers, of_two_integers, of_three_integers, of_two_semigroups, of_semigroup_then_integer}
use Rattle.sg_rows_constructors.specs.Rows.{apery_list_row, fundamental_gaps_row, gaps_row, generators_row, small_elements_row, modular_row, proportional_row, intersection_row, quotient_row}
use Rattle.sg_rows_constructors.specs.declared.maker.Maker.{Maker}
use Rattle.sg_rows_constructors.specs.declared.maker.Maker.TheVariants.{OfList, OfListOrIntegers, Modular, ProportionallyModular, Intersection, Quotient}
use Rattle.sg_rows_constructors.specs.declared.maker.IntegersMaker.{IntegersMaker}
use Rattle.sg_rows_constructors.specs.declared.maker.IntegersMaker.TheVariants.{ByAperyList, ByFundamentalGaps, ByGaps, ByGenerators, BySmallElements}

abbrev pub names : List (List ℕ × Maker)
names =
    (codes "ModularNumericalSemigroup", Modular)
    ∷ (codes "NumericalSemigroup", OfListOrIntegers ByGenerators)
    ∷ (codes "NumericalSemigroupByAperyList", OfList ByAperyList)
    ∷ (codes "NumericalSemigroupByFundamentalGaps", OfList ByFundamentalGaps)
    ∷ (codes "NumericalSemigroupByGaps", OfList ByGaps)
    ∷ (codes "NumericalSemigroupBySmallElements", OfList BySmallElements)
    ∷ (codes "ProportionallyModularNumericalSemigroup", ProportionallyModular)
    ∷ (codes "QuotientOfNumericalSemigroup", Quotient)
    ∷ []

-- the command of a name
unfoldable pub named : List ℕ → Option Maker
named name = lookup (bytes_eq name) names

-- whether a command takes so many arguments
abbrev pub takes : Maker → ℕ → Bool
takes (OfList m) n = nat_eq n 1
takes (OfListOrIntegers m) n = nat_le 1 n
takes Modular n = nat_eq n 2
takes Intersection n = nat_eq n 2
takes Quotient n = nat_eq n 2
takes ProportionallyModular n = nat_eq n 3

abbrev pub integers_row : IntegersMaker → List ℤ → Row
integers_row ByAperyList zs = apery_list_row zs
integers_row ByFundamentalGaps zs = fundamental_gaps_row zs
integers_row ByGaps zs = gaps_row zs
integers_row ByGenerators zs = generators_row zs
integers_row BySmallElements zs = small_elements_row zs

-- what the row of a command says of arguments
abbrev pub case_of : Maker → Items Things → Case
case_of (OfList m) args = of_list args (integers_row m)
case_of (OfListOrIntegers m) args = of_list_or_integers args (integers_row m)
case_of Modular args = of_two_integers args modular_row
case_of ProportionallyModular args = of_three_integers args proportional_row
case_of Intersection args = of_two_semigroups (apery_table ∷ []) args intersection_row
case_of Quotient args = of_semigroup_then_integer (apery_table ∷ []) args quotient_row
