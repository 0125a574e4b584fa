-- The row of the tame degree has a value, where nothing is refused.
use Rattle.std.proofs.Common.{ℕ, List, [], ◌∷◌, inr}
use Rattle.sg_laws_invariants.proofs.Decisions.{decided-not}
use Rattle.sg_lawful.specs.Lawful.{IsLawfulList}
use Rattle.sg_tame.specs.Tame.{IsTame}
use Rattle.sg_tame.proofs.TameExists.{tame-exists}
use Rattle.sg_value.specs.Data.{Items}
use Rattle.sg_value.specs.Plain.{Things}
use Rattle.sg_rows.specs.Asks.{apery_table}
use Rattle.sg_rows.specs.Lawful.{AreLawful}
use Rattle.sg_rows.proofs.FormLaws.{of_semigroup_some}
use Rattle.sg_rows.proofs.SomeValue.{HasValue, SomeValue, natural_some}
use Rattle.sg_rows_tame.specs.Commands.{case_of}
use Rattle.sg_rows_tame.specs.Rows.{IsTameable, tame_row}
use Rattle.sg_rows_tame.specs.declared.command.TameCommand.{TameCommand}
use Rattle.sg_rows_tame.specs.declared.command.TameCommand.TheVariants.{TameDegree}
use Rattle.sg_rows_tame.proofs.Deciding.{many-decided, tameable-decided}

no : ⊥ → ⊥
no h = h

tame_some : (G : List ℕ) → IsLawfulList G → HasValue (tame_row G)
tame_some G g = (
  inr no,
  λ a. (
    inr no,
    λ b. (
      decided-not (IsTameable G) (tameable-decided G g.semigroup),
      λ c. (many-decided G g.semigroup g.minimal, λ d. (inr no, λ e. natural_some (IsTame G) (tame-exists G g.semigroup))),
    ),
  ),
)

pub command_some : (c : TameCommand) (args : Items Things) → AreLawful args → SomeValue (case_of c args)
command_some TameDegree = of_semigroup_some (apery_table ∷ []) tame_row tame_some
