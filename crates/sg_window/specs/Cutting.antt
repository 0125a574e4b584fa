-- The statements of a whole input, and those that are found as it is read.
use Rattle.std.specs.Prelude.{◌≡◌, ℕ, ◌+◌, true, false, List, [], ◌∷◌, ◌++◌, take, drop, slice_range}
use Rattle.std.specs.List.{concat}
use Rattle.sg_cut.specs.Lines.{count_of_line_feeds, line_of}
use Rattle.sg_cut.specs.Cut.{Cut}
use Rattle.sg_cut.specs.declared.outcome.Piece.TheVariants.{Statement, TooLong, Unfinished, End, Waiting}

-- a statement's text, and its line
abbrev pub Texts : Type 0
Texts = List (List ℕ × ℕ)

-- how an input ends: behind its last statement, or at one that is too long, or has no end, with its line
pub data Close : Type 0 where
  done : Close
  too_long : ℕ → Close
  unfinished : ℕ → Close

-- a whole input, or the rest of one behind so many line feeds, has these statements and ends so
pub data Statements : List ℕ → ℕ → Texts → Close → Type 0 where
  next : {bytes : List ℕ} {feeds : ℕ} {more : Texts} {close : Close} (begin end : ℕ) → Cut bytes true (Statement begin end)
      → Statements (drop end bytes) (feeds + count_of_line_feeds (take end bytes)) more close
      → Statements bytes feeds ((slice_range bytes begin end, feeds + line_of bytes begin) ∷ more) close
  ends : {bytes : List ℕ} {feeds : ℕ} → Cut bytes true End → Statements bytes feeds [] done
  long : {bytes : List ℕ} {feeds : ℕ} (begin : ℕ) → Cut bytes true (TooLong begin) → Statements bytes feeds [] (too_long (feeds + line_of bytes begin))
  breaks : {bytes : List ℕ} {feeds : ℕ} (begin : ℕ) → Cut bytes true (Unfinished begin) → Statements bytes feeds [] (unfinished (feeds + line_of bytes begin))

-- these are found where an input is read in these pieces, behind some bytes that were read before, and a piece is read
-- only where more bytes are wanted
pub data FindsIn : List (List ℕ) → List ℕ → ℕ → Texts → Close → Type 0 where
  statement : {pieces : List (List ℕ)} {bytes : List ℕ} {feeds : ℕ} {more : Texts} {close : Close} (begin end : ℕ) → Cut bytes false (Statement begin end)
      → FindsIn pieces (drop end bytes) (feeds + count_of_line_feeds (take end bytes)) more close
      → FindsIn pieces bytes feeds ((slice_range bytes begin end, feeds + line_of bytes begin) ∷ more) close
  long : {pieces : List (List ℕ)} {bytes : List ℕ} {feeds : ℕ} (begin : ℕ) → Cut bytes false (TooLong begin) → FindsIn pieces bytes feeds [] (too_long (feeds + line_of bytes begin))
  read : {pieces : List (List ℕ)} {piece bytes : List ℕ} {feeds : ℕ} {texts : Texts} {close : Close} → Cut bytes false Waiting → FindsIn pieces (bytes ++ piece) feeds texts close
      → FindsIn (piece ∷ pieces) bytes feeds texts close
  at_end : {bytes : List ℕ} {feeds : ℕ} {close : Close} → Cut bytes false Waiting → Statements bytes feeds [] close → FindsIn [] bytes feeds [] close

-- what is found in pieces are the statements of the whole, so that two cuttings of one input find the same
pub record AnyCutting : Type 0 where
  pub whole : (pieces : List (List ℕ)) (texts : Texts) (close : Close) → FindsIn pieces [] 0 texts close → Statements (concat pieces) 0 texts close
  pub one : (bytes : List ℕ) (texts others : Texts) (close other : Close) → Statements bytes 0 texts close → Statements bytes 0 others other → (texts ≡ others) × (close ≡ other)
