-- The commands on presentations: their names, and their rows over arguments.
use Rattle.std.specs.Prelude.{ℕ, Bool, nat_eq, codes, List, [], ◌∷◌, Option}
use Rattle.std.specs.Map.{lookup}
use Rattle.std.specs.Str.{bytes_eq}
use Rattle.sg_value.specs.Data.{Items}
use Rattle.sg_value.specs.Plain.{Things}
use Rattle.sg_rows.specs.Asks.{apery_table}
use Rattle.sg_rows.specs.Forms.{of_semigroup}
use Rattle.sg_rows.specs.Order.{Case}
use Rattle.sg_rows_presentations.specs.Rows.{least_delta_row, presentation_row}
use Rattle.sg_rows_presentations.specs.declared.command.PresentationCommand.{PresentationCommand}
use Rattle.sg_rows_presentations.specs.declared.command.PresentationCommand.TheVariants.{OfPresentation, LeastDelta}
use Rattle.sg_rows_presentations.specs.declared.fact.PresentationFact.TheVariants.{BettiElements, MaximumDelta, MinimalPresentation}

-- ---- names

abbrev pub names : List (List ℕ × PresentationCommand)
names =
    (codes "BettiElements", OfPresentation BettiElements)
    ∷ (codes "MaximumDelta", OfPresentation MaximumDelta)
    ∷ (codes "MinimalPresentation", OfPresentation MinimalPresentation)
    ∷ (codes "MinimumDelta", LeastDelta)
    ∷ []

-- the command of a name
unfoldable pub named : List ℕ → Option PresentationCommand
named name = lookup (bytes_eq name) names

-- whether a command takes so many arguments
abbrev pub takes : PresentationCommand → ℕ → Bool
takes c n = nat_eq n 1

-- ---- arguments

-- what the row of a command says of arguments, and what it asks for at once
abbrev pub case_of : PresentationCommand → Items Things → Case
case_of (OfPresentation f) args = of_semigroup (apery_table ∷ []) args (presentation_row f)
case_of LeastDelta args = of_semigroup [] args least_delta_row
