-- What a whole script comes to.
use Rattle.std.specs.Prelude.{ℕ, nat_lt, ◌&&◌, not, Bool, List, [], length, take, Option, None, Some, is_some}
use Rattle.sg_drill.specs.Summary.{summary_of}
use Rattle.sg_cut.specs.declared.limits.TheConstants.{SCRIPT_LIMIT}
use Rattle.sg_words.specs.Settings.{Wanted}
use Rattle.sg_play.specs.Record.{Ending, Played, Record, done, marked, out}
use Rattle.sg_play.specs.Play.{Play}
use Rattle.sgps_cli.specs.Written.{out_bytes}
use Rattle.sgps_cli.specs.declared.plan.Plan.{Plan}

-- whether the run goes on behind refused statements: it is asked for, and there is no drill
abbrev pub keep_of : Wanted → Bool
keep_of wanted = wanted.keep_going && not (is_some wanted.drill)

-- how a script is played, as it is wanted
abbrev pub plan_of : Wanted → Plan
plan_of wanted = record { budget = wanted.budget; capacity = wanted.cache; keep = keep_of wanted }

-- the play of the first bytes of the input, up to the limit, as it is wanted: they are the whole script where the input has
-- fewer
abbrev pub Settled : List ℕ → Wanted → Played → Type 0
Settled b wanted p = Play (take SCRIPT_LIMIT b) (nat_lt (length b) SCRIPT_LIMIT) wanted.budget (keep_of wanted) p

-- what is shown of a drill: its three lines, where its play came to the end of its script, and else nothing
abbrev pub shown_at : Ending → ℕ → List ℕ → Record
shown_at done statements printed = marked out (summary_of statements printed)
shown_at e statements printed = []

-- what stands before the last lines: what the play wrote; or what is shown of a drill, which prints nothing of its own
abbrev pub body_in : Option ℕ → Played → Record
body_in None p = p.written
body_in (Some statements) p = shown_at p.ending statements (out_bytes p.written)

abbrev pub body_of : Wanted → Played → Record
body_of wanted p = body_in wanted.drill p
