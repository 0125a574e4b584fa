-- What a script does: its statements are taken from the front of its bytes and executed in turn.
use Rattle.std.specs.Prelude.{◌≡◌, ℕ, ◌+◌, Bool, true, false, List, [], ◌∷◌, ◌++◌, drop, take, slice_range, None, Some, Result, Ok, Err}
use Rattle.sg_cut.specs.Cut.{Cut}
use Rattle.sg_cut.specs.Lines.{count_of_line_feeds, line_of}
use Rattle.sg_cut.specs.declared.outcome.Piece.{Piece}
use Rattle.sg_cut.specs.declared.outcome.Piece.TheVariants.{Statement, TooLong, Unfinished, End, Waiting}
use Rattle.sg_rows.specs.Asks.{Asking}
use Rattle.sg_rows.specs.declared.fault.Fault.{Fault}
use Rattle.sg_rows.specs.declared.fault.Fault.TheVariants as fault
use Rattle.sg_script.specs.Outcome.{Outcome, a_tree, too_deep, no_statement, IsReadAs}
use Rattle.sg_meaning.specs.Vars.{Vars}
use Rattle.sg_meaning.specs.Process.{Runs}
use Rattle.sg_meaning.specs.Statements.{Going, on, ended, whole as meaning}
use Rattle.sg_play.specs.FaultLines.{fault_line}
use Rattle.sg_play.specs.Record.{Record, Refusal, out, err, marked, Ending, done, refused, waiting, Played, after}

-- one turn of a play: it ends here, or a statement was executed, or passed, and the play goes on
pub data Turn : Type 0 where
  stops : Played → Turn
  goes : Record → List Asking → List Refusal → Vars → Turn

-- the play ends with this text, and these asks, at the statement at this place
abbrev pub ends_at : List ℕ → List Asking → Ending → ℕ → Turn
ends_at text asked ending place = stops (record { written = marked out text; asked = asked; refusals = []; ending = ending; place = Some place })

-- the play ends with no statement
abbrev pub ends_between : Ending → Turn
ends_between ending = stops (record { written = []; asked = []; refusals = []; ending = ending; place = None })

-- a statement is refused after it wrote this text and asked for this: the play ends, or, where it is kept going, passes
-- it, with its line
abbrev pub refused_at : Bool → Fault → List ℕ → List Asking → Vars → ℕ → ℕ → Turn
refused_at false e text asked vars place line = ends_at text asked (refused e line) place
refused_at true e text asked vars place line = goes (marked out text ++ marked err (fault_line e line)) asked ((e, line) ∷ []) vars

-- after a statement was executed, with its place and its line
abbrev pub executed : Bool → Result Going Fault → List ℕ → List Asking → Vars → ℕ → ℕ → Turn
executed keep (Ok on) text asked vars place line = goes (marked out text) asked [] vars
executed keep (Ok ended) text asked vars place line = ends_at text asked done place
executed keep (Err e) text asked vars place line = refused_at keep e text asked vars place line

-- what a text that was read comes to, within this budget
abbrev pub Performs : ℕ → Bool → Outcome → Vars → ℕ → ℕ → Turn → Type 0
Performs budget keep (a_tree c) vars place line t =
    (end : Result Going Fault) × (vars' : Vars) × (text : List ℕ) × (asked : List Asking) × Runs budget (meaning c) vars end vars' text asked
    × (t ≡ executed keep end text asked vars' place line)
Performs budget keep too_deep vars place line t = t ≡ refused_at keep fault.Depth [] [] vars place line
Performs budget keep no_statement vars place line t = t ≡ refused_at keep fault.Syntax [] [] vars place line

-- What the first piece of the bytes comes to, which `passed` bytes with `feeds` line feeds stand before. Nothing tells
-- where a statement that is too long, or has no end, would end, so that it ends each play.
abbrev pub Takes : ℕ → Bool → Piece → List ℕ → ℕ → ℕ → Vars → Turn → Type 0
Takes budget keep (Statement begin end) bytes passed feeds vars t =
    (o : Outcome) × IsReadAs (slice_range bytes begin end) o × Performs budget keep o vars (passed + begin) (feeds + line_of bytes begin) t
Takes budget keep (TooLong begin) bytes passed feeds vars t = t ≡ ends_at [] [] (refused fault.TooLong (feeds + line_of bytes begin)) (passed + begin)
Takes budget keep (Unfinished begin) bytes passed feeds vars t = t ≡ ends_at [] [] (refused fault.Syntax (feeds + line_of bytes begin)) (passed + begin)
Takes budget keep End bytes passed feeds vars t = t ≡ ends_between done
Takes budget keep Waiting bytes passed feeds vars t = t ≡ ends_between waiting

-- a play from these variables on, over the bytes behind those that have passed; they are all that are left where
-- `whole` holds
pub data PlaysFrom (budget : ℕ) (keep whole : Bool) : List ℕ → ℕ → ℕ → Vars → Played → Type 0 where
  last : {bytes : List ℕ} {passed feeds : ℕ} {vars : Vars} {p : Played} (piece : Piece) → Cut bytes whole piece → Takes budget keep piece bytes passed feeds vars (stops p)
      → PlaysFrom budget keep whole bytes passed feeds vars p
  next : {bytes : List ℕ} {passed feeds : ℕ} {vars : Vars} {p : Played} (begin end : ℕ) (r : Record) (asked : List Asking) (refusals : List Refusal) (vars' : Vars)
      → Cut bytes whole (Statement begin end) → Takes budget keep (Statement begin end) bytes passed feeds vars (goes r asked refusals vars')
      → PlaysFrom budget keep whole (drop end bytes) (passed + end) (feeds + count_of_line_feeds (take end bytes)) vars' p
      → PlaysFrom budget keep whole bytes passed feeds vars (after r asked refusals p)

-- a whole play begins with no variable; no statement takes more steps than the budget, and refused statements are passed
-- where `keep` holds
abbrev pub Play : List ℕ → Bool → ℕ → Bool → Played → Type 0
Play bytes whole budget keep p = PlaysFrom budget keep whole bytes 0 0 [] p
