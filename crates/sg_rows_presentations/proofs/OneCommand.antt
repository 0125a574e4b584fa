-- The rows on presentations have at most one value.
use Rattle.std.proofs.Common.{ℕ, List, [], ◌∷◌, map, ap, sym, ◌∙◌}
use Rattle.sg_defs.specs.Membership.{IsFactorization}
use Rattle.sg_nonunique.specs.Catenary.{IsCatenary}
use Rattle.sg_nonunique.specs.Deltas.{IsMaxDelta, IsMinDelta}
use Rattle.sg_laws_factorizations.proofs.OneAnswer.{one-betti_elements, one-catenary, one-max_delta, one-min_delta, one-relations}
use Rattle.sg_value.specs.Data.{Items}
use Rattle.sg_value.specs.Plain.{Things}
use Rattle.sg_rows.specs.Asks.{apery_table}
use Rattle.sg_rows.proofs.FormLaws.{of_semigroup_one}
use Rattle.sg_rows.proofs.OneListed.{natural_one, natural_or_fail_one, naturals_one, vector_lists_one}
use Rattle.sg_rows.proofs.OneValue.{One, OneValue}
use Rattle.sg_rows_presentations.specs.Commands.{case_of}
use Rattle.sg_rows_presentations.specs.Read.{sides}
use Rattle.sg_rows_presentations.specs.Rows.{AreBettiElements, AreSidesOf, least_delta_row, presentation_row}
use Rattle.sg_rows_presentations.specs.declared.fact.PresentationFact.{PresentationFact}
use Rattle.sg_rows_presentations.specs.declared.fact.PresentationFact.TheVariants.{BettiElements, CatenaryDegree, MaximumDelta, MinimalPresentation}
use Rattle.sg_rows_presentations.specs.declared.command.PresentationCommand.{PresentationCommand}
use Rattle.sg_rows_presentations.specs.declared.command.PresentationCommand.TheVariants.{OfPresentation, LeastDelta}

one-sides : (G : List ℕ) → One (AreSidesOf G)
one-sides G ls ms h k = h.2 ∙ (ap (map sides) (one-relations G h.0 k.0 h.1 k.1) ∙ sym k.2)

presentation_one : (f : PresentationFact) (G : List ℕ) → One (presentation_row f G).value
presentation_one BettiElements G = naturals_one (AreBettiElements G) (one-betti_elements G)
presentation_one CatenaryDegree G = natural_one (IsCatenary (IsFactorization G)) (one-catenary (IsFactorization G))
presentation_one MaximumDelta G = natural_or_fail_one (IsMaxDelta (IsFactorization G)) (one-max_delta (IsFactorization G))
presentation_one MinimalPresentation G = vector_lists_one (AreSidesOf G) (one-sides G)

least_delta_one : (G : List ℕ) → One (least_delta_row G).value
least_delta_one G = natural_or_fail_one (IsMinDelta (IsFactorization G)) (one-min_delta (IsFactorization G))

pub command_one : (c : PresentationCommand) (args : Items Things) → OneValue (case_of c args)
command_one (OfPresentation f) = of_semigroup_one (apery_table ∷ []) (presentation_row f) (presentation_one f)
command_one LeastDelta = of_semigroup_one [] least_delta_row least_delta_one
