-- The row of the tame degree, over the minimal list G of a numerical semigroup.
use Rattle.std.specs.Prelude.{ℕ, List, [], ◌∷◌, Result, Ok, Err}
use Rattle.sg_classes.specs.Fit.{IsNarrow}
use Rattle.sg_tame.specs.Answers.{HasTooMany, IsWithinLimit}
use Rattle.sg_tame.specs.Tame.{IsTame}
use Rattle.sg_rows.specs.Asks.{tame_degree}
use Rattle.sg_rows.specs.Order.{Row, IsReplyOf, Bars}
use Rattle.sg_rows.specs.Values.{answers, a_natural}
use Rattle.sg_rows.specs.declared.fault.Fault.{Fault}

-- there are few generators, and the greatest of them and the span together are within the limit
abbrev pub IsTameable : List ℕ → Type 0
IsTameable G = IsNarrow G × IsWithinLimit G

-- the tame degree, which is asked for where the semigroup is not too large, and is refused where some element that has to
-- be looked at has too many factorizations
abbrev pub tame_row : List ℕ → Row
tame_row G = record (answers (a_natural (IsTame G))) { limit = ¬ IsTameable G; many = HasTooMany G; late = (tame_degree, G) ∷ [] }

-- told whether the semigroup is too large: it is not, or the row bars it and the fault is its first refusal
abbrev pub Checked : Result (Unit {0}) Fault → List ℕ → Type 0
Checked (Ok _) G = IsTameable G
Checked (Err e) G = Bars (tame_row G) × IsReplyOf (tame_row G) (Err e)
