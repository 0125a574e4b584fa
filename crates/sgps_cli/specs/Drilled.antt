-- What the play of a drill came to.
use Rattle.std.specs.Prelude.{◌≡◌, ℕ, Bool, true, false, List}
use Rattle.sg_calls.specs.After.{after_asked}
use Rattle.sg_drill.specs.Script.{drill_script}
use Rattle.sg_play.specs.Record.{Played}
use Rattle.sg_play.specs.Play.{Play}
use Rattle.sg_store.specs.Attributes.{Attributes, nothing_asked}
use Rattle.sgps_cli.specs.Ends.{IsCauseOf}
use Rattle.sgps_cli.specs.Written.{out_bytes}
use Rattle.sgps_cli.specs.declared.ending.Cause.{Cause}
use Rattle.sgps_cli.specs.declared.ending.Cause.TheVariants as cause
use Rattle.sgps_cli.specs.declared.plan.Plan.{Plan}

-- whether the script was played to its end
abbrev pub is_done : Cause → Bool
is_done cause.Ok = true
is_done (cause.Refusals count line) = true
is_done (cause.Script fault line) = false
is_done (cause.Budget line) = false
is_done cause.Usage = false
is_done cause.ReadFault = false
is_done cause.Overlong = false
is_done cause.WriteFault = false
is_done cause.Memory = false

-- the whole script of the drill was played, and printed this, with this kept of what was asked for; or memory was wanting
pub data Drills (c : Cause) (plan : Plan) (statements : ℕ) (kept : Attributes) (printed : List ℕ) : Type 0 where
  ran : (p : Played) → Play (drill_script statements) true plan.budget plan.keep p → IsCauseOf c p → kept ≡ after_asked p.asked (nothing_asked plan.capacity)
      → printed ≡ out_bytes p.written → Drills c plan statements kept printed
  broken : c ≡ cause.Memory → Drills c plan statements kept printed
