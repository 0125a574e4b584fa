-- How a run ends, and what it wrote by then.
use Rattle.std.specs.Prelude.{◌≡◌, ℕ, ◌+◌, ◌≤◌, ◌⊎◌, Bool, true, false, List, [], ◌++◌, length, take, Option, None, Some, is_some, IsSome, ⊤}
use Rattle.sg_cut.specs.declared.limits.TheConstants.{SCRIPT_LIMIT, STATEMENT_LIMIT}
use Rattle.sg_io.specs.Faults.{Rose}
use Rattle.sg_drill.specs.Script.{drill_script}
use Rattle.sg_io.specs.Inputs.{Input}
use Rattle.sg_rows.specs.declared.fault.Fault.TheVariants as fault
use Rattle.sg_words.specs.Settings.{Wanted}
use Rattle.sg_play.specs.Record.{Record, Refusal, err, marked, IsFrontOf, Played, done, refused, waiting}
use Rattle.sg_play.specs.Play.{Play}
use Rattle.sg_play.specs.Left.{IsLeft}
use Rattle.sgps_cli.specs.Causes.{last_line}
use Rattle.sgps_cli.specs.Passed.{HasRefusals}
use Rattle.sgps_cli.specs.Written.{Sinks, Wrote}
use Rattle.sgps_cli.specs.Input.{IsInput, IsTaken, TellsScript}
use Rattle.sgps_cli.specs.Settled.{Settled, body_of, keep_of}
use Rattle.sgps_cli.specs.Statistics.{last_lines, lines_with}
use Rattle.sgps_cli.specs.declared.ending.Cause.{Cause}
use Rattle.sgps_cli.specs.declared.ended.Ended.{Ended}
use Rattle.sgps_cli.specs.declared.ending.Cause.TheVariants as cause

-- what a run was asked for, what its source told when it began, and how its source stood at the end
pub record Seen : Type 0 where
  pub settings : Option Wanted
  pub inputs : Option (List Input)
  pub begun : Bool
  pub left : Option (List ℕ)
  -- how often the source had failed when the run began, and when it ended
  pub faults_before : ℕ
  pub faults_after : ℕ

-- b is the script of a drill with so many statements; or the source was begun, with the input b of this name
abbrev pub IsScript : Option ℕ → Option (List ℕ) → Seen → List ℕ → Type 0
IsScript (Some statements) name seen b = b ≡ drill_script statements
IsScript None name seen b = (seen.begun ≡ true) × IsInput seen.inputs name b

-- b is the script that the accepted words name
pub record Reads (seen : Seen) (b : List ℕ) : Type 0 where
  pub wanted : Wanted
  pub accepted : seen.settings ≡ Some wanted
  pub script : IsScript wanted.drill wanted.file seen b

-- the whole script came to this play
abbrev pub Settles : Seen → Played → Type 0
Settles seen p = (b : List ℕ) × (r : Reads seen b) × Settled b r.wanted p

-- the part of the input that was taken, played as if more may follow, waits for more; there is no drill
pub record WaitsForMore (seen : Seen) (p : Played) : Type 0 where
  pub wanted : Wanted
  pub accepted : seen.settings ≡ Some wanted
  pub no_drill : wanted.drill ≡ None
  pub begun : seen.begun ≡ true
  pub bytes : List ℕ
  pub taken : IsTaken seen.inputs wanted.file seen.left bytes
  pub played : Play bytes false wanted.budget (keep_of wanted) p
  pub waits : p.ending ≡ waiting

-- as many bytes were taken as a script may have, and no statement inside them ends the run
abbrev pub ReachesLimit : Seen → Type 0
ReachesLimit seen = (p : Played) × (w : WaitsForMore seen p) × (length w.bytes ≡ SCRIPT_LIMIT)

-- a run ends Overlong exactly there: always where the source tells its bytes, and nothing stops the run before it says so
pub record IsOverlongAtLimit (c : Cause) (seen : Seen) : Type 0 where
  pub only : c ≡ cause.Overlong → ReachesLimit seen
  pub always : is_some seen.inputs ≡ true → ReachesLimit seen → (c ≡ cause.Overlong) ⊎ (c ≡ cause.WriteFault) ⊎ (c ≡ cause.Memory)

-- accepted words without a drill, with which the source was not begun
abbrev pub CouldNotBegin : Seen → Type 0
CouldNotBegin seen = (wanted : Wanted) × (seen.settings ≡ Some wanted) × (wanted.drill ≡ None) × (seen.begun ≡ false)

-- the cause of a play, by its ending and the statements that it passed
abbrev pub IsCauseOf : Cause → Played → Type 0
IsCauseOf cause.Ok p = (p.ending ≡ done) × (p.refusals ≡ [])
IsCauseOf (cause.Refusals count line) p = (p.ending ≡ done) × HasRefusals p.refusals count line
IsCauseOf (cause.Script f line) p = (p.ending ≡ refused f line) × (f ≡ fault.Budget → ⊥)
IsCauseOf (cause.Budget line) p = p.ending ≡ refused fault.Budget line
IsCauseOf cause.Overlong p = p.ending ≡ waiting
IsCauseOf cause.Usage p = ⊥
IsCauseOf cause.ReadFault p = ⊥
IsCauseOf cause.WriteFault p = ⊥
IsCauseOf cause.Memory p = ⊥

-- the condition of a cause, the record that stands before its last lines, and these lines
abbrev pub Comes : Cause → Seen → Record → List ℕ → Type 0
Comes cause.Usage seen body lines = (seen.settings ≡ None) × (body ≡ []) × (lines ≡ last_line cause.Usage)
Comes cause.ReadFault seen body lines =
    Rose seen.faults_before seen.faults_after × (CouldNotBegin seen × (body ≡ []) ⊎ ((p : Played) × WaitsForMore seen p × (body ≡ p.written))) × (lines ≡ last_line cause.ReadFault)
Comes c seen body lines = (p : Played) × (s : Settles seen p) × IsCauseOf c p × (body ≡ body_of s.1.wanted p) × (lines ≡ last_lines s.1.wanted c p.asked)

-- no more was taken of the input than so many bytes
abbrev pub TakesUpTo : Seen → ℕ → Type 0
TakesUpTo seen n = (wanted : Wanted) × (seen.settings ≡ Some wanted) × ((bytes : List ℕ) × IsTaken seen.inputs wanted.file seen.left bytes × (length bytes ≤ n))

-- a run whose cause is that of its play took no more than a statement may have, from the first byte of the statement on
-- that ended it, unless it played a drill
abbrev pub IsNear : Cause → Seen → Type 0
IsNear c seen =
    (p : Played) × (s : Settles seen p) × IsCauseOf c p × (s.1.wanted.drill ≡ None → (place : ℕ) → p.place ≡ Some place → TakesUpTo seen (place + STATEMENT_LIMIT))

-- the same, of each cause
abbrev pub ReadsInOnePass : Cause → Seen → Type 0
ReadsInOnePass cause.Usage seen = ⊤
ReadsInOnePass cause.ReadFault seen = ⊤
ReadsInOnePass cause.Overlong seen = ⊤
ReadsInOnePass cause.WriteFault seen = ⊤
ReadsInOnePass cause.Memory seen = ⊤
ReadsInOnePass c seen = IsNear c seen

-- A run that was stopped had written this, while its script was played, and this front of its last lines. The first is a
-- front of what the whole script writes, for every play that the script has. There is at most one, and that there
-- always is one is no part of this definition: so it also says what was played, whole statements and a part of one. A
-- drill writes nothing while it is played, and a front of its three lines behind that.
pub data IsEarly (seen : Seen) : Record → List ℕ → Type 0 where
  nothing : IsEarly seen [] []
  playing : {r : Record} (b : List ℕ) (reads : Reads seen b) → reads.wanted.drill ≡ None → IsLeft (take SCRIPT_LIMIT b) reads.wanted.budget (keep_of reads.wanted) r
      → ((p : Played) → Settled b reads.wanted p → IsFrontOf r p.written) → IsEarly seen r []
  showing : {r : Record} (p : Played) (s : Settles seen p) → IsSome s.1.wanted.drill → IsFrontOf r (body_of s.1.wanted p) → IsEarly seen r []
  telling : {r : Record} {said : List ℕ} (c : Cause) (rest : List ℕ) → Comes c seen r (said ++ rest) → IsEarly seen r said

-- a run that was stopped wrote what it had written, and a front of the line for want of memory
abbrev pub RunsOut : Seen → Sinks → Sinks → Type 0
RunsOut seen old new =
    (r : Record) × (said line rest : List ℕ) × IsEarly seen r said × (last_line cause.Memory ≡ line ++ rest) × Wrote old new (r ++ marked err (said ++ line))

-- how often the sinks had failed when a run began, and when it ended
pub record SinkFaults : Type 0 where
  pub out_before : ℕ
  pub out_after : ℕ
  pub err_before : ℕ
  pub err_after : ℕ

-- a sink failed; a part of the last lines is there only where `err` failed, and so is a line for want of memory
abbrev pub FailsToWrite : Seen → Sinks → Sinks → SinkFaults → Type 0
FailsToWrite seen old new f =
    (Rose f.out_before f.out_after ⊎ Rose f.err_before f.err_after)
    × (((r : Record) × (said : List ℕ) × IsEarly seen r said × ((said ≡ []) ⊎ Rose f.err_before f.err_after) × Wrote old new (r ++ marked err said))
    ⊎ (Rose f.err_before f.err_after × RunsOut seen old new))

-- how a run ends: with the whole record of its cause and its last lines, or stopped by a sink or for want of memory
abbrev pub Ends : Cause → Seen → Sinks → Sinks → SinkFaults → Type 0
Ends cause.WriteFault seen old new f = FailsToWrite seen old new f
Ends cause.Memory seen old new f = RunsOut seen old new
Ends c seen old new f = (body : Record) × (lines : List ℕ) × Comes c seen body lines × Wrote old new (body ++ marked err lines)

-- how a run ends before its last lines are written: with the record that stands before them, or stopped
pub data Closes (e : Ended) (seen : Seen) (r : Record) : Type 0 where
  closed : Comes e.cause seen r (lines_with e.cause e.counts) → Closes e seen r
  stopped : (e.cause ≡ cause.WriteFault) ⊎ (e.cause ≡ cause.Memory) → e.counts ≡ None → IsEarly seen r [] → Closes e seen r

-- the same; a run is too long exactly at the limit, and reads its input in one pass
pub record IsClosed (e : Ended) (seen : Seen) (r : Record) : Type 0 where
  pub closes : Closes e seen r
  pub overlong : IsOverlongAtLimit e.cause seen
  pub one_pass : ReadsInOnePass e.cause seen

-- the script that the words name is told, and played to its end
pub record PlaysToEnd (settings : Option Wanted) (inputs : Option (List Input)) : Type 0 where
  pub wanted : Wanted
  pub accepted : settings ≡ Some wanted
  pub bytes : List ℕ
  pub script : TellsScript wanted.drill wanted.file inputs bytes
  pub play : Played
  pub settled : Settled bytes wanted play
  pub ends : play.ending ≡ done

-- the end of a script that is played to its end: Ok, or Refusals where statements were refused; or want of memory
abbrev pub EndsWell : Cause → List Refusal → Type 0
EndsWell cause.Ok refusals = refusals ≡ []
EndsWell (cause.Refusals count line) refusals = HasRefusals refusals count line
EndsWell cause.Memory refusals = ⊤
EndsWell c refusals = ⊥
