-- The commands on relative ideals: their names, and which row is whose.
use Rattle.std.specs.Prelude.{ℕ, Bool, nat_eq, codes, List, [], ◌∷◌, Option}
use Rattle.std.specs.Map.{lookup}
use Rattle.std.specs.Str.{bytes_eq}
use Rattle.sg_value.specs.Data.{Items}
use Rattle.sg_value.specs.Plain.{Things}
use Rattle.sg_rows.specs.Asks.{apery_table, pseudo_frobenius}
use Rattle.sg_rows.specs.Order.{Row, Case}
use Rattle.sg_rows.specs.Forms.{of_ideal, of_semigroup, of_list_then_semigroup, of_two_ideals}
use Rattle.sg_rows_ideals.specs.Rows.{fact_row, generated_row, canonical_row, maximal_row, pair_row}
use Rattle.sg_rows_ideals.specs.declared.facts.IdealFact.TheVariants.{Ambient}
use Rattle.sg_rows_ideals.specs.declared.ideals.IdealCommand.{IdealCommand}
use Rattle.sg_rows_ideals.specs.declared.ideals.IdealCommand.TheVariants.{OfIdeal, OfTable, OfBoth, Generated, OfTwoIdeals}
use Rattle.sg_rows_ideals.specs.declared.ideals.TableIdeal.{TableIdeal}
use Rattle.sg_rows_ideals.specs.declared.ideals.TableIdeal.TheVariants.{Maximal}
use Rattle.sg_rows_ideals.specs.declared.ideals.BothIdeal.{BothIdeal}
use Rattle.sg_rows_ideals.specs.declared.ideals.BothIdeal.TheVariants.{Canonical}

abbrev pub names : List (List ℕ × IdealCommand)
names =
    (codes "AmbientNumericalSemigroupOfIdeal", OfIdeal Ambient)
    ∷ (codes "CanonicalIdeal", OfBoth Canonical)
    ∷ (codes "IdealOfNumericalSemigroup", Generated)
    ∷ (codes "MaximalIdeal", OfTable Maximal)
    ∷ []

-- the command of a name
unfoldable pub named : List ℕ → Option IdealCommand
named name = lookup (bytes_eq name) names

-- whether a command takes so many arguments
abbrev pub takes : IdealCommand → ℕ → Bool
takes Generated n = nat_eq n 2
takes (OfTwoIdeals p) n = nat_eq n 2
takes _ n = nat_eq n 1

abbrev pub table_row : TableIdeal → List ℕ → Row
table_row Maximal G = maximal_row G

abbrev pub both_row : BothIdeal → List ℕ → Row
both_row Canonical G = canonical_row G

-- what the row of a command says of arguments
abbrev pub case_of : IdealCommand → Items Things → Case
case_of (OfIdeal f) args = of_ideal [] args (fact_row f)
case_of (OfTable i) args = of_semigroup (apery_table ∷ []) args (table_row i)
case_of (OfBoth i) args = of_semigroup (apery_table ∷ pseudo_frobenius ∷ []) args (both_row i)
case_of Generated args = of_list_then_semigroup (apery_table ∷ []) args generated_row
case_of (OfTwoIdeals p) args = of_two_ideals (apery_table ∷ []) args (pair_row p)
