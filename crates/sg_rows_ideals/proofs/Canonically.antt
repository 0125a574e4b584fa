-- The one ideal that takes both the table and the pseudo-Frobenius numbers.
use Rattle.std.proofs.Common.{ℕ, List, Result}
use Rattle.std.specs.Prelude.{IfOk, IfErr}
use Rattle.sg_defs.specs.Ideals.{IsInCanonical, RelativeIdeal}
use Rattle.sg_ideal.specs.Faults.{IsSizeFault}
use Rattle.sg_ideal.specs.Value.{IsIdealOf}
use Rattle.sg_ideal.specs.declared.fault.IdealFault.{IdealFault}
use Rattle.sg_rows.specs.Made.{Tells}
use Rattle.sg_rows.specs.declared.made.Made.{Made}
use Rattle.sg_rows.specs.declared.fault.CallFault.{CallFault}
use Rattle.sg_rows_ideals.specs.Settled.{IsSettled}
use Rattle.sg_rows_ideals.specs.Ideals.{both_row}
use Rattle.sg_rows_ideals.specs.declared.ideals.BothIdeal.{BothIdeal}
use Rattle.sg_rows_ideals.specs.declared.ideals.BothIdeal.TheVariants.{Canonical}
use Rattle.sg_rows_ideals.proofs.Served.{own_serves}
use Rattle.sg_rows.proofs.Telling.{always}
use Rattle.sg_rows_ideals.proofs.Serving.{settles}

-- the canonical ideal is told
pub canonical_told : (ideal : BothIdeal) (G : List ℕ) (made : Result RelativeIdeal IdealFault) (r : Result Made CallFault) → IsSettled made r → IfOk made (IsIdealOf G (IsInCanonical G)) → IfErr made (IsSizeFault G (IsInCanonical G))
    → Tells r (both_row ideal G)
canonical_told Canonical G made r h ok refused =
    settles G (IsInCanonical G) ⊥ ⊥ (Unit {0}) (IsSizeFault G (IsInCanonical G)) (own_serves G (IsInCanonical G)) made r h ok (always made) refused
