-- The rows on presentations have a value, where nothing is refused.
use Rattle.std.proofs.Common.{ℕ, List, [], ◌∷◌, map, inr, refl}
use Rattle.sg_defs.specs.Membership.{IsFactorization, IsNumericalSemigroup}
use Rattle.sg_nonunique.specs.Catenary.{IsCatenary}
use Rattle.sg_nonunique.specs.Deltas.{IsMaxDelta, IsMinDelta}
use Rattle.sg_betti.specs.Limits.{IsPresentable}
use Rattle.sg_laws_invariants.proofs.Decisions.{decided-not}
use Rattle.sg_laws_factorizations.proofs.SemigroupsSettled.{betti_elements-listed, canonical_relations-listed, catenary-settled, max_delta-settled, min_delta-settled}
use Rattle.sg_lawful.specs.Lawful.{IsLawfulList}
use Rattle.sg_value.specs.Data.{Items}
use Rattle.sg_value.specs.Plain.{Things}
use Rattle.sg_rows.specs.Asks.{apery_table}
use Rattle.sg_rows.specs.Lawful.{AreLawful}
use Rattle.sg_rows.specs.Order.{Plain}
use Rattle.sg_rows.proofs.FormLaws.{of_semigroup_some}
use Rattle.sg_rows.proofs.SomeListed.{natural_or_fail_some, naturals_some, vector_lists_some}
use Rattle.sg_rows.proofs.SomeValue.{HasLawful, HasValue, SomeValue, answers_some, natural_some}
use Rattle.sg_rows_presentations.specs.Commands.{case_of}
use Rattle.sg_rows_presentations.specs.Read.{sides}
use Rattle.sg_rows_presentations.specs.Rows.{AreBettiElements, AreSidesOf, least_delta_row, presentation_row, presented}
use Rattle.sg_rows_presentations.specs.declared.fact.PresentationFact.{PresentationFact}
use Rattle.sg_rows_presentations.specs.declared.fact.PresentationFact.TheVariants.{BettiElements, CatenaryDegree, MaximumDelta, MinimalPresentation}
use Rattle.sg_rows_presentations.specs.declared.command.PresentationCommand.{PresentationCommand}
use Rattle.sg_rows_presentations.specs.declared.command.PresentationCommand.TheVariants.{OfPresentation, LeastDelta}
use Rattle.sg_rows_presentations.proofs.Telling.{presentable-decided}

no : ⊥ → ⊥
no h = h

presented_some : (G : List ℕ) (P : Plain → Type 0) → IsNumericalSemigroup G → HasLawful P → HasValue (presented G P)
presented_some G P s h = (inr no, λ u. (inr no, λ v. (decided-not (IsPresentable G) (presentable-decided G s), λ w. (inr no, λ y. (inr no, λ z. h)))))

presentation_some : (f : PresentationFact) (G : List ℕ) → IsLawfulList G → HasValue (presentation_row f G)
presentation_some BettiElements G g = presented_some G _ g.semigroup (naturals_some (AreBettiElements G) (betti_elements-listed G g.semigroup))
presentation_some CatenaryDegree G g = presented_some G _ g.semigroup (natural_some (IsCatenary (IsFactorization G)) (catenary-settled G g.semigroup))
presentation_some MaximumDelta G g = presented_some G _ g.semigroup (natural_or_fail_some (IsMaxDelta (IsFactorization G)) (max_delta-settled G g.semigroup))
presentation_some MinimalPresentation G g =
    let P = canonical_relations-listed G g.semigroup in
    presented_some G _ g.semigroup (vector_lists_some (AreSidesOf G) (map sides P.0, (P.0, P.1, refl)))

least_delta_some : (G : List ℕ) → IsLawfulList G → HasValue (least_delta_row G)
least_delta_some G g = answers_some _ (natural_or_fail_some (IsMinDelta (IsFactorization G)) (min_delta-settled G g.semigroup g.minimal))

pub command_some : (c : PresentationCommand) (args : Items Things) → AreLawful args → SomeValue (case_of c args)
command_some (OfPresentation f) = of_semigroup_some (apery_table ∷ []) (presentation_row f) (presentation_some f)
command_some LeastDelta = of_semigroup_some [] least_delta_row least_delta_some
