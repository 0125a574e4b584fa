-- The rows on presentations, over the minimal list G of a numerical semigroup.
use Rattle.std.specs.Prelude.{◌≡◌, ◌<◌, ℕ, List, [], ◌∷◌, map, Option, Some, None, Result, Ok, Err}
use Rattle.sg_defs.specs.Listings.{Lists}
use Rattle.sg_defs.specs.Membership.{IsFactorization}
use Rattle.sg_nonunique.specs.Catenary.{IsCatenary}
use Rattle.sg_nonunique.specs.Classes.{HasTwoClasses}
use Rattle.sg_nonunique.specs.Deltas.{IsMaxDelta, IsMinDelta}
use Rattle.sg_nonunique.specs.Presentations.{IsCanonical, Relation}
use Rattle.sg_betti.specs.Limits.{IsPresentable}
use Rattle.sg_rows.specs.Asks.{presentation}
use Rattle.sg_rows.specs.Order.{Plain, Row, IsReplyOf, Passes, Bars}
use Rattle.sg_rows.specs.Values.{answers, a_natural, a_natural_or_fail, naturals_with, vector_lists_with}
use Rattle.sg_rows.specs.declared.fault.Fault.{Fault}
use Rattle.sg_rows.specs.declared.made.Made.{Made}
use Rattle.sg_rows.specs.declared.made.Made.TheVariants.{Natural, Fail}
use Rattle.sg_rows_presentations.specs.Read.{sides}
use Rattle.sg_rows_presentations.specs.declared.fact.PresentationFact.{PresentationFact}
use Rattle.sg_rows_presentations.specs.declared.fact.PresentationFact.TheVariants.{BettiElements, CatenaryDegree, MaximumDelta, MinimalPresentation}

-- a row that refuses nothing but a semigroup whose presentation would be too large, and asks for it where it refuses nothing
abbrev pub presented : List ℕ → (Plain → Type 0) → Row
presented G value = record (answers value) { limit = ¬ IsPresentable G; late = (presentation, G) ∷ [] }

-- ascending
abbrev pub AreBettiElements : List ℕ → List ℕ → Type 0
AreBettiElements G ns = Lists (λ n. HasTwoClasses (IsFactorization G n)) ns

-- the canonical relations, each by its two sides
abbrev pub AreSidesOf : List ℕ → List (List (List ℕ)) → Type 0
AreSidesOf G ls = (P : List (Relation ℕ)) × IsCanonical (◌<◌) (IsFactorization G) P × (ls ≡ map sides P)

abbrev pub presentation_row : PresentationFact → List ℕ → Row
presentation_row BettiElements G = presented G (naturals_with (AreBettiElements G))
presentation_row CatenaryDegree G = presented G (a_natural (IsCatenary (IsFactorization G)))
presentation_row MaximumDelta G = presented G (a_natural_or_fail (IsMaxDelta (IsFactorization G)))
presentation_row MinimalPresentation G = presented G (vector_lists_with (AreSidesOf G))

-- the row of the least delta, which refuses nothing and asks for nothing
abbrev pub least_delta_row : List ℕ → Row
least_delta_row G = answers (a_natural_or_fail (IsMinDelta (IsFactorization G)))

-- a natural, or fail where there is none, as it is made
abbrev pub made_of : Option ℕ → Made
made_of None = Fail
made_of (Some n) = Natural n

-- told whether the row refuses: it does not, or it bars the semigroup and the fault is its first refusal
abbrev pub Checked : Result (Unit {0}) Fault → Row → Type 0
Checked (Ok _) row = Passes row
Checked (Err e) row = Bars row × IsReplyOf row (Err e)
