-- What a play that reads its script as it goes has come to, turn by turn.
use Rattle.std.specs.Prelude.{◌≡◌, ℕ, ◌+◌, ◌-◌, ◌*◌, ◌<◌, ◌≤◌, ◌⊎◌, Bool, true, false, List, [], ◌∷◌, ◌++◌, length, Option, Some, IfSome, Result, Ok, Err, if◌then◌else◌}
use Rattle.std.specs.Io.KnownBytes.{prepend_known}
use Rattle.sg_cut.specs.declared.limits.TheConstants.{SCRIPT_LIMIT, STATEMENT_LIMIT}
use Rattle.sg_tree.specs.Tree.{Code}
use Rattle.sg_rows.specs.Asks.{Asking}
use Rattle.sg_rows.specs.declared.fault.Fault.{Fault}
use Rattle.sg_script.specs.Outcome.{Outcome, a_tree, IsReadAs}
use Rattle.sg_meaning.specs.Vars.{Vars}
use Rattle.sg_meaning.specs.Process.{Breaks}
use Rattle.sg_meaning.specs.Statements.{on, ended, whole as meaning}
use Rattle.sg_calls.specs.After.{after_asked}
use Rattle.sg_store.specs.Attributes.{Attributes, nothing_asked}
use Rattle.sg_eval.specs.Outcomes.{RunsOver}
use Rattle.sg_eval.specs.State.{State as Machine}
use Rattle.sg_eval.specs.declared.step_fault.Flow.{Flow}
use Rattle.sg_eval.specs.declared.step_fault.Flow.TheVariants as flow
use Rattle.sg_eval.specs.declared.step_fault.StepFault.{StepFault}
use Rattle.sg_eval.specs.declared.step_fault.StepFault.TheVariants as step
use Rattle.sg_play.specs.Record.{Record, Refusal, Ending, done, refused, waiting, Played, marked, out, after, IsFrontOf}
use Rattle.sg_play.specs.Play as play
use Rattle.sg_play.specs.Play.{Performs, PlaysFrom, Play, refused_at}
use Rattle.sg_play.specs.Left.{LeftFrom, IsLeft}
use Rattle.sg_window.specs.Window.{State, Holds}
use Rattle.sgps_cli.specs.Passed.{AreCounted, with_one, end_of, refusal_of}
use Rattle.sgps_cli.specs.Written.{Sinks, Wrote}
use Rattle.sgps_cli.specs.Ends.{IsCauseOf}
use Rattle.sgps_cli.specs.declared.ending.Cause.{Cause}
use Rattle.sgps_cli.specs.declared.ending.Cause.TheVariants as cause
use Rattle.sgps_cli.specs.declared.passed.Passed.{Passed}
use Rattle.sgps_cli.specs.declared.plan.Plan.{Plan}
use Rattle.sgps_cli.specs.declared.play.Turn.{Turn}
use Rattle.sgps_cli.specs.declared.play.Turn.TheVariants as turn

-- so much was asked for in between, within the same budget
pub record Asked (asked : List Asking) (s s' : Machine) : Type 0 where
  pub kept : s'.attributes ≡ after_asked asked s.attributes
  pub budget : s'.budget ≡ s.budget

-- a statement was refused after it wrote this and asked for this, whichever way refused statements go
abbrev pub IsRefused : Outcome → Fault → List ℕ → List Asking → Machine → Machine → Type 0
IsRefused o e printed asked s s' = (keep : Bool) (place line : ℕ) → Performs s.budget keep o s.variables place line (refused_at keep e printed asked s'.variables place line)

-- the process of a statement was left, or none was begun
abbrev pub IsLeftIn : List ℕ → Machine → Machine → List ℕ → Type 0
IsLeftIn text s s' printed = ((c : Code) × IsReadAs text (a_tree c) × Breaks s.budget (meaning c) s.variables s'.variables printed) ⊎ (printed ≡ [])

-- a text was read and executed, or refused, or left
abbrev pub Executed : Result Flow StepFault → List ℕ → Machine → Machine → List ℕ → Type 0
Executed (Ok flow.On) text s s' printed = (c : Code) × IsReadAs text (a_tree c) × RunsOver s.budget (meaning c) s.variables (Ok on) s'.variables printed s.attributes s'.attributes
Executed (Ok flow.Quit) text s s' printed = (c : Code) × IsReadAs text (a_tree c) × RunsOver s.budget (meaning c) s.variables (Ok ended) s'.variables printed s.attributes s'.attributes
Executed (Err (step.Script e)) text s s' printed =
    (o : Outcome) × IsReadAs text o × (asked : List Asking) × IsRefused o e printed asked s s' × (s'.attributes ≡ after_asked asked s.attributes)
Executed (Err step.Write) text s s' printed = IsLeftIn text s s' printed
Executed (Err step.Memory) text s s' printed = IsLeftIn text s s' printed

-- the statement with this text, in this line, comes to this turn, wherever it stands
abbrev pub ComesTo : ℕ → Bool → List ℕ → ℕ → Vars → (ℕ → play.Turn) → Type 0
ComesTo budget keep text line vars t = (o : Outcome) × IsReadAs text o × ((place : ℕ) → Performs budget keep o vars place line (t place))

-- the play goes on with this record
abbrev pub goes_on : Record → List Asking → List Refusal → Vars → ℕ → play.Turn
goes_on written asked refusals vars place = play.goes written asked refusals vars

-- the play ends at the statement, with this record
abbrev pub stops_at : Record → List Asking → Ending → ℕ → play.Turn
stops_at written asked ending place = play.stops (record { written = written; asked = asked; refusals = []; ending = ending; place = Some place })

-- a part of what the statement writes: nothing, a part of its text, or a part of that and its line
pub data IsPart (budget : ℕ) (keep : Bool) (text : List ℕ) (line : ℕ) (vars : Vars) : Record → Type 0 where
  nothing : IsPart budget keep text line vars []
  inside : (c : Code) (vars' : Vars) (printed : List ℕ) → IsReadAs text (a_tree c) → Breaks budget (meaning c) vars vars' printed → IsPart budget keep text line vars (marked out printed)
  telling : {front : Record} (written : Record) (asked : List Asking) (refusals : List Refusal) (vars' : Vars) → ComesTo budget keep text line vars (goes_on written asked refusals vars')
      → IsFrontOf front written → IsPart budget keep text line vars front

-- what was passed is counted: nothing more, or one statement in this line
abbrev pub Counts : Passed → ℕ → List Refusal → Passed → Type 0
Counts passed line fresh now = (fresh ≡ []) × (now ≡ passed) ⊎ ((f : Fault) × (fresh ≡ (f, line) ∷ []) × (now ≡ with_one passed line))

-- the cause of an ending at a statement in this line
abbrev pub EndsAt : Cause → Passed → ℕ → Ending → Type 0
EndsAt c passed line e = (e ≡ done) × (c ≡ end_of passed) ⊎ ((f : Fault) × (e ≡ refused f line) × (c ≡ refusal_of f line))

-- the statement with this text, in this line, wrote this: the play goes on behind it, or ends there, or was left
pub data Acts (keep : Bool) (text : List ℕ) (line : ℕ) (passed : Passed) (s s' : Machine) (written : Record) : Turn → Type 0 where
  goes : {now : Passed} (asked : List Asking) (fresh : List Refusal) → ComesTo s.budget keep text line s.variables (goes_on written asked fresh s'.variables) → Asked asked s s'
      → Counts passed line fresh now → Acts keep text line passed s s' written (turn.Goes now)
  stops : {c : Cause} (asked : List Asking) (e : Ending) → ComesTo s.budget keep text line s.variables (stops_at written asked e) → Asked asked s s' → EndsAt c passed line e
      → Acts keep text line passed s s' written (turn.Stops c)
  breaks : {c : Cause} → (c ≡ cause.WriteFault) ⊎ (c ≡ cause.Memory) → IsPart s.budget keep text line s.variables written → Acts keep text line passed s s' written (turn.Stops c)

-- So far the play of these bytes wrote this, asked for this and passed these statements, and these bytes are left behind
-- the last statement: however they are played, or left, with what follows them, so are all.
pub record IsAt (budget : ℕ) (keep : Bool) (bytes held : List ℕ) (feeds : ℕ) (vars : Vars) (asked : List Asking) (refusals : List Refusal) (written : Record) : Type 0 where
  pub passed : ℕ
  pub counted : length bytes ≡ passed + length held
  pub onward : (more : List ℕ) (whole : Bool) (p : Played) → PlaysFrom budget keep whole (held ++ more) passed feeds vars p → Play (bytes ++ more) whole budget keep (after written asked refusals p)
  pub left : (more : List ℕ) (r : Record) → LeftFrom budget keep (held ++ more) passed feeds vars r → IsLeft (bytes ++ more) budget keep (written ++ r)

-- how an input is played, what is told of what it had, and of what the two sinks had taken, when its play began
pub record Begun : Type 0 where
  pub plan : Plan
  pub all : Option (List ℕ)
  pub sinks : Sinks

-- a play has come so far, with this window, this machine and what was counted, this left of its input, and these sinks
pub record IsReached (b : Begun) (w : State) (s : Machine) (passed : Passed) (rest : Option (List ℕ)) (now : Sinks) : Type 0 where
  pub bytes : List ℕ
  pub held : List ℕ
  pub feeds : ℕ
  pub asked : List Asking
  pub refusals : List Refusal
  pub written : Record
  pub holds : Holds held feeds w
  pub taken : w.taken ≡ length bytes
  pub within : w.taken ≤ SCRIPT_LIMIT
  pub told : b.all ≡ prepend_known bytes rest
  pub wrote : Wrote b.sinks now written
  pub so_far : IsAt b.plan.budget b.plan.keep bytes held feeds s.variables asked refusals written
  pub kept : s.attributes ≡ after_asked asked (nothing_asked b.plan.capacity)
  pub budget : s.budget ≡ b.plan.budget
  pub passes : AreCounted refusals passed
  pub few : length refusals + length held ≤ length bytes
  pub at_end : w.ended ≡ true → (w.taken < SCRIPT_LIMIT) × IfSome rest (λ bs. bs ≡ [])

-- the bytes that were taken came to this end, when this was written: at a statement, or at the end of the input, or they
-- wait for more, which a fault held back or which are no part of a script; or their play was left. Of what was asked for
-- this is kept.
pub data Comes (c : Cause) (plan : Plan) (bytes : List ℕ) (rest : Option (List ℕ)) (kept : Attributes) (written : Record) : Type 0 where
  early : (p : Played) → Play bytes false plan.budget plan.keep p → (p.ending ≡ waiting → ⊥) → IsCauseOf c p → ((place : ℕ) → p.place ≡ Some place → length bytes ≤ place + STATEMENT_LIMIT)
      → kept ≡ after_asked p.asked (nothing_asked plan.capacity) → written ≡ p.written → Comes c plan bytes rest kept written
  whole : (p : Played) → Play bytes true plan.budget plan.keep p → (length bytes < SCRIPT_LIMIT) × IfSome rest (λ bs. bs ≡ []) → IsCauseOf c p
      → ((place : ℕ) → p.place ≡ Some place → length bytes ≤ place + STATEMENT_LIMIT)
      → kept ≡ after_asked p.asked (nothing_asked plan.capacity) → written ≡ p.written → Comes c plan bytes rest kept written
  waits : (p : Played) → Play bytes false plan.budget plan.keep p → p.ending ≡ waiting
      → (c ≡ cause.ReadFault) × (length bytes < SCRIPT_LIMIT) ⊎ (c ≡ cause.Overlong) × (length bytes ≡ SCRIPT_LIMIT) → written ≡ p.written → Comes c plan bytes rest kept written
  broken : (c ≡ cause.WriteFault) ⊎ (c ≡ cause.Memory) → IsLeft bytes plan.budget plan.keep written → Comes c plan bytes rest kept written

-- a play ended, with this kept of what was asked for, this left of its input, and these sinks
pub record Concludes (c : Cause) (b : Begun) (kept : Attributes) (rest : Option (List ℕ)) (now : Sinks) : Type 0 where
  pub bytes : List ℕ
  pub written : Record
  pub within : length bytes ≤ SCRIPT_LIMIT
  pub told : b.all ≡ prepend_known bytes rest
  pub wrote : Wrote b.sinks now written
  pub comes : Comes c b.plan bytes rest kept written

-- one turn: the play goes on, or ended
abbrev pub Turns : Turn → Begun → State → Machine → Option (List ℕ) → Sinks → Type 0
Turns (turn.Goes passed) b w s rest now = IsReached b w s passed rest now
Turns (turn.Stops c) b w s rest now = Concludes c b s.attributes rest now

-- more was read, or the end was seen, where the script may have more; or nothing was
pub data ReadsMore (passed : Passed) (w w' : State) (got : List ℕ) (rest : Option (List ℕ)) : Turn → Type 0 where
  gets : w' ≡ record w { rest = w.rest ++ got; taken = w.taken + length got } → 0 < length got → w'.taken ≤ SCRIPT_LIMIT → ReadsMore passed w w' got rest (turn.Goes passed)
  at_end : got ≡ [] → w' ≡ record w { ended = true } → w.taken < SCRIPT_LIMIT → IfSome rest (λ bs. bs ≡ []) → ReadsMore passed w w' got rest (turn.Goes passed)
  fails : got ≡ [] → w' ≡ w → w.taken < SCRIPT_LIMIT → ReadsMore passed w w' got rest (turn.Stops cause.ReadFault)
  full : got ≡ [] → w' ≡ w → w.taken ≡ SCRIPT_LIMIT → ReadsMore passed w w' got rest (turn.Stops cause.Overlong)

-- what is left to do, as long as a turn goes on: the bytes to take, and those that are held
abbrev pub work_of : State → ℕ
work_of w = 2 * (SCRIPT_LIMIT - w.taken) + length w.rest + (if w.ended then 0 else 1)

-- the play goes on
abbrev pub IsGoing : Turn → Type 0
IsGoing (turn.Goes passed) = Unit {0}
IsGoing (turn.Stops c) = ⊥
