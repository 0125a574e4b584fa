-- The commands on factorizations: their names, and their rows over arguments.
use Rattle.std.specs.Prelude.{ℕ, Bool, nat_eq, ◌||◌, codes, List, [], ◌∷◌, Option}
use Rattle.std.specs.Map.{lookup}
use Rattle.std.specs.Str.{bytes_eq}
use Rattle.sg_value.specs.Data.{Items}
use Rattle.sg_value.specs.Plain.{Things}
use Rattle.sg_rows.specs.Alternatives.{or_else}
use Rattle.sg_rows.specs.Asks.{apery_table}
use Rattle.sg_rows.specs.Forms.{of_semigroup, of_semigroup_and_integer}
use Rattle.sg_rows.specs.Order.{Case}
use Rattle.sg_rows_factorizations.specs.Elements.{element_row, lengths_of_all_row, semigroup_omega_row}
use Rattle.sg_rows_factorizations.specs.declared.all_lengths.AllLengths.TheVariants.{Elasticity}
use Rattle.sg_rows_factorizations.specs.declared.command.FactorizationCommand.{FactorizationCommand}
use Rattle.sg_rows_factorizations.specs.declared.command.FactorizationCommand.TheVariants.{OfGenerators, OfElement, OmegaPrimality}
use Rattle.sg_rows_factorizations.specs.declared.element.ElementFact.TheVariants as element

-- ---- names

abbrev pub names : List (List ℕ × FactorizationCommand)
names =
    (codes "DeltaSet", OfElement element.DeltaSet)
    ∷ (codes "Elasticity", OfGenerators Elasticity)
    ∷ (codes "Factorizations", OfElement element.Factorizations)
    ∷ (codes "LengthsOfFactorizations", OfElement element.Lengths)
    ∷ (codes "OmegaPrimality", OmegaPrimality)
    ∷ []

-- the command of a name
unfoldable pub named : List ℕ → Option FactorizationCommand
named name = lookup (bytes_eq name) names

-- whether a command takes so many arguments
abbrev pub takes : FactorizationCommand → ℕ → Bool
takes (OfGenerators f) n = nat_eq n 1
takes (OfElement f) n = nat_eq n 2
takes OmegaPrimality n = nat_eq n 1 || nat_eq n 2

-- ---- arguments

-- what the row of a command says of arguments
abbrev pub case_of : FactorizationCommand → Items Things → Case
case_of (OfGenerators f) args = of_semigroup [] args (lengths_of_all_row f)
case_of (OfElement f) args = of_semigroup_and_integer (apery_table ∷ []) args (element_row f)
case_of OmegaPrimality args = or_else (of_semigroup (apery_table ∷ []) args semigroup_omega_row) (of_semigroup_and_integer (apery_table ∷ []) args (element_row element.OmegaPrimality))
