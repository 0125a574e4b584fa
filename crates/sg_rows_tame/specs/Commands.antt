-- The command on the tame degree: its name, and its row over arguments.
use Rattle.std.specs.Prelude.{ℕ, Bool, nat_eq, codes, List, [], ◌∷◌, Option}
use Rattle.std.specs.Map.{lookup}
use Rattle.std.specs.Str.{bytes_eq}
use Rattle.sg_value.specs.Data.{Items}
use Rattle.sg_value.specs.Plain.{Things}
use Rattle.sg_rows.specs.Asks.{apery_table}
use Rattle.sg_rows.specs.Forms.{of_semigroup}
use Rattle.sg_rows.specs.Order.{Case}
use Rattle.sg_rows_tame.specs.Rows.{tame_row}
use Rattle.sg_rows_tame.specs.declared.command.TameCommand.{TameCommand}
use Rattle.sg_rows_tame.specs.declared.command.TameCommand.TheVariants.{TameDegree}

-- ---- names

abbrev pub names : List (List ℕ × TameCommand)
names = (codes "TameDegree", TameDegree) ∷ []

-- the command of a name
unfoldable pub named : List ℕ → Option TameCommand
named name = lookup (bytes_eq name) names

-- whether a command takes so many arguments
abbrev pub takes : TameCommand → ℕ → Bool
takes c n = nat_eq n 1

-- ---- arguments

-- what the row of a command says of arguments, and what it asks for at once
abbrev pub case_of : TameCommand → Items Things → Case
case_of TameDegree args = of_semigroup (apery_table ∷ []) args tame_row
