-- What a window finds first in the bytes for which it stands.
use Rattle.std.specs.Prelude.{◌≡◌, ℕ, ◌+◌, ◌<◌, ◌≤◌, false, List, [], length, take, drop, slice_range}
use Rattle.sg_cut.specs.Lines.{count_of_line_feeds, line_of}
use Rattle.sg_cut.specs.Cut as bytes
use Rattle.sg_cut.specs.declared.limits.TheConstants.{STATEMENT_LIMIT}
use Rattle.sg_cut.specs.declared.outcome.Piece.TheVariants as piece
use Rattle.sg_window.specs.declared.answers.Cut.{Cut}
use Rattle.sg_window.specs.declared.answers.Cut.TheVariants as cut
use Rattle.sg_window.specs.Window.{State, Holds}

-- a statement, or one that does not end, begins there: in this line, and with no more bytes taken from there on than a
-- statement may have
pub record BeginsAt (held : List ℕ) (feeds begin line : ℕ) : Type 0 where
  pub line_is : line ≡ feeds + line_of held begin
  pub near : length held ≤ begin + STATEMENT_LIMIT

-- the first statement of the bytes is the text now, and the window stands for what is behind it
pub record FindsStatement (held : List ℕ) (feeds line : ℕ) (old new : State) : Type 0 where
  pub begin : ℕ
  pub end : ℕ
  pub stands : bytes.Cut held old.ended (piece.Statement begin end)
  pub begins : BeginsAt held feeds begin line
  pub text_is : new.text ≡ slice_range held begin end
  pub behind : Holds (drop end held) (feeds + count_of_line_feeds (take end held)) new

-- more bytes are wanted, and there is room for one
pub record WantsMore (held : List ℕ) (feeds : ℕ) (old new : State) : Type 0 where
  pub open_ : old.ended ≡ false
  pub waits : bytes.Cut held false piece.Waiting
  pub no_text : new.text ≡ []
  pub same : Holds held feeds new
  pub room : length new.rest < STATEMENT_LIMIT

-- what stands first in the bytes, which are all that there are where the end was seen
abbrev pub Finds : Cut → List ℕ → ℕ → State → State → Type 0
Finds (cut.Statement line) held feeds old new = FindsStatement held feeds line old new
Finds cut.More held feeds old new = WantsMore held feeds old new
Finds cut.End held feeds old new = bytes.Cut held old.ended piece.End × (new.text ≡ []) × (new.rest ≡ [])
Finds (cut.TooLong line) held feeds old new =
    (begin : ℕ) × bytes.Cut held old.ended (piece.TooLong begin) × BeginsAt held feeds begin line × (new.text ≡ []) × (new.rest ≡ drop begin held)
Finds (cut.Unfinished line) held feeds old new =
    (begin : ℕ) × bytes.Cut held old.ended (piece.Unfinished begin) × BeginsAt held feeds begin line × (new.text ≡ []) × (new.rest ≡ drop begin held)
