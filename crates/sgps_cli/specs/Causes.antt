-- The status and the line of each cause.
use Rattle.std.specs.Prelude.{ℕ, List, [], codes}
use Rattle.sg_rows.specs.declared.fault.Fault.TheVariants.{Budget}
use Rattle.sg_play.specs.FaultLines.{fault_line}
use Rattle.sgps_cli.specs.declared.ending.Cause.{Cause}
use Rattle.sgps_cli.specs.declared.ending.Cause.TheVariants as cause

-- the status that the program ends with
abbrev pub status_of : Cause → ℕ
status_of cause.Ok = 0
status_of (cause.Refusals count line) = 1
status_of (cause.Script fault line) = 1
status_of cause.Usage = 2
status_of cause.ReadFault = 3
status_of cause.Overlong = 3
status_of cause.WriteFault = 4
status_of cause.Memory = 5
status_of (cause.Budget line) = 6

-- what is written to `err` at the end
abbrev pub last_line : Cause → List ℕ
last_line cause.Ok = []
last_line (cause.Refusals count line) = []
last_line (cause.Script fault line) = fault_line fault line
last_line (cause.Budget line) = fault_line Budget line
last_line cause.Usage = codes "sgps: usage\n"
last_line cause.ReadFault = codes "sgps: read fault\n"
last_line cause.Overlong = codes "sgps: script too long\n"
last_line cause.WriteFault = []
last_line cause.Memory = codes "sgps: no memory\n"
