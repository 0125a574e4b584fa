-- The row of the tame degree has at most one value.
use Rattle.std.proofs.Common.{ℕ, List, [], ◌∷◌}
use Rattle.sg_tame.specs.Tame.{IsTame}
use Rattle.sg_tame.proofs.MinimalLemmas.{one-tame}
use Rattle.sg_value.specs.Data.{Items}
use Rattle.sg_value.specs.Plain.{Things}
use Rattle.sg_rows.specs.Asks.{apery_table}
use Rattle.sg_rows.proofs.FormLaws.{of_semigroup_one}
use Rattle.sg_rows.proofs.OneListed.{natural_one}
use Rattle.sg_rows.proofs.OneValue.{OneValue}
use Rattle.sg_rows_tame.specs.Commands.{case_of}
use Rattle.sg_rows_tame.specs.Rows.{tame_row}
use Rattle.sg_rows_tame.specs.declared.command.TameCommand.{TameCommand}
use Rattle.sg_rows_tame.specs.declared.command.TameCommand.TheVariants.{TameDegree}

pub command_one : (c : TameCommand) (args : Items Things) → OneValue (case_of c args)
command_one TameDegree = of_semigroup_one (apery_table ∷ []) tame_row (λ G. natural_one (IsTame G) (one-tame G))
