-- What a window shows, and of which bytes it stands.
use Rattle.std.specs.Prelude.{◌≡◌, ℕ, ◌+◌, ◌<◌, Bool, false, true, List, [], ◌∷◌, ◌++◌, length, take, drop, Result, Ok, Err, if◌then◌else◌}
use Rattle.sg_io.specs.declared.source.Failed.{Failed}
use Rattle.sg_cut.specs.Lines.{count_of_line_feeds}
use Rattle.sg_cut.specs.declared.limits.TheConstants.{STATEMENT_LIMIT, SCRIPT_LIMIT}
use Rattle.sg_window.specs.Comments.{AreSkipped, Shortens, ends_in_comment}
use Rattle.sg_window.specs.declared.answers.Filled.{Filled}
use Rattle.sg_window.specs.declared.answers.Filled.TheVariants.{Got, End}

-- a window as callers see it
pub record State : Type 0 where
  -- the statement that was found last, up to the next look for one
  pub text : List ℕ
  -- what is held behind it
  pub rest : List ℕ
  -- how many line feeds stood before the rest
  pub feeds : ℕ
  -- how many bytes were taken from the source
  pub taken : ℕ
  -- whether the end of the input was seen
  pub ended : Bool

-- a window that has taken nothing
abbrev pub fresh : State
fresh = record { text = []; rest = []; feeds = 0; taken = 0; ended = false }

-- one more byte may be taken and held
abbrev pub HasRoom : State → Type 0
HasRoom w = (length w.text + length w.rest < STATEMENT_LIMIT) × (w.taken < SCRIPT_LIMIT)

-- a read gave these bytes, or the end
abbrev pub Fills : Result Filled Failed → List ℕ → State → State → Type 0
Fills (Ok Got) got old new = (0 < length got) × (new ≡ record old { rest = old.rest ++ got; taken = old.taken + length got })
Fills (Ok End) got old new = (got ≡ []) × (new ≡ record old { ended = true })
Fills (Err e) got old new = (got ≡ []) × (new ≡ old)

-- without the text and so many bytes behind it
abbrev pub skipped : ℕ → State → State
skipped n w = record w { text = []; rest = drop n w.rest; feeds = w.feeds + count_of_line_feeds (take n w.rest) }

-- so many bytes behind the text are the text
abbrev pub with_text : ℕ → State → State
with_text n w = record w { text = take n w.rest; rest = drop n w.rest; feeds = w.feeds + count_of_line_feeds (take n w.rest) }

-- without the text and the blanks and comments behind it, but for the sign of a comment that may go on
abbrev pub passed : State → State
passed w = record w { text = []; rest = if ends_in_comment w.rest then 35 ∷ [] else []; feeds = w.feeds + count_of_line_feeds w.rest }

-- The window stands for these bytes, behind the last statement, before which stand so many line feeds: it holds them,
-- or has let go blanks and comments in front, and of a comment that may go on all but its sign.
pub record Holds (bytes : List ℕ) (feeds : ℕ) (w : State) : Type 0 where
  pub front : List ℕ
  pub tail : List ℕ
  pub parted : bytes ≡ front ++ tail
  pub skips : AreSkipped front
  pub held : Shortens tail w.rest
  pub counted : w.feeds ≡ feeds + count_of_line_feeds front
