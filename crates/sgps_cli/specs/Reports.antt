-- How a run ends once its last lines were written, or could not be.
use Rattle.std.specs.Prelude.{◌≡◌, ℕ, List, ◌++◌}
use Rattle.sg_io.specs.Faults.{Rose}
use Rattle.sgps_cli.specs.Statistics.{lines_with}
use Rattle.sgps_cli.specs.declared.ended.Ended.{Ended}
use Rattle.sgps_cli.specs.declared.ending.Cause.{Cause}
use Rattle.sgps_cli.specs.declared.ending.Cause.TheVariants as cause

-- the last lines were written whole, and the cause is the end
pub record IsTold (e : Ended) (said : List ℕ) (end : Cause) : Type 0 where
  pub same : end ≡ e.cause
  pub whole : said ≡ lines_with e.cause e.counts

-- a front of the last lines was written
abbrev pub IsFrontOfLines : Ended → List ℕ → Type 0
IsFrontOfLines e said = (rest : List ℕ) × (lines_with e.cause e.counts ≡ said ++ rest)

-- the last lines were written and the cause is the end; or the sink failed, or had no memory, after a front of them
pub data IsReport (e : Ended) (said : List ℕ) (before now : ℕ) (end : Cause) : Type 0 where
  told : IsTold e said end → IsReport e said before now end
  failed : end ≡ cause.WriteFault → IsFrontOfLines e said → Rose before now → IsReport e said before now end
  no_memory : end ≡ cause.Memory → IsFrontOfLines e said → IsReport e said before now end
