-- What a play has written that was left before its end.
use Rattle.std.specs.Prelude.{◌≡◌, ℕ, ◌+◌, Bool, false, List, [], ◌++◌, drop, take, slice_range}
use Rattle.sg_cut.specs.Cut.{Cut}
use Rattle.sg_cut.specs.Lines.{count_of_line_feeds, line_of}
use Rattle.sg_cut.specs.declared.outcome.Piece.TheVariants.{Statement}
use Rattle.sg_tree.specs.Tree.{Code}
use Rattle.sg_script.specs.Outcome.{a_tree, IsReadAs}
use Rattle.sg_rows.specs.Asks.{Asking}
use Rattle.sg_meaning.specs.Vars.{Vars}
use Rattle.sg_meaning.specs.Process.{Breaks}
use Rattle.sg_meaning.specs.Statements.{whole as meaning}
use Rattle.sg_play.specs.Record.{Record, Refusal, IsFrontOf, marked, out, err}
use Rattle.sg_play.specs.Play.{goes, Takes}

-- the first statement of the bytes, from `begin` up to `end`, has this tree
pub record IsFirstStatement (bytes : List ℕ) (begin end : ℕ) (c : Code) : Type 0 where
  pub stands : Cut bytes false (Statement begin end)
  pub reads : IsReadAs (slice_range bytes begin end) (a_tree c)

-- the first statement of the bytes was executed, or passed, and wrote this
pub record GoesOn (budget : ℕ) (keep : Bool) (bytes : List ℕ) (passed feeds end : ℕ) (vars vars' : Vars) (r : Record) : Type 0 where
  pub begin : ℕ
  pub asked : List Asking
  pub refusals : List Refusal
  pub stands : Cut bytes false (Statement begin end)
  pub takes : Takes budget keep (Statement begin end) bytes passed feeds vars (goes r asked refusals vars')

-- a play from these variables that was left when it had written this: before a statement, inside one, in the line of one
-- that was passed, or in what follows it
pub data LeftFrom (budget : ℕ) (keep : Bool) : List ℕ → ℕ → ℕ → Vars → Record → Type 0 where
  before : {bytes : List ℕ} {passed feeds : ℕ} {vars : Vars} → LeftFrom budget keep bytes passed feeds vars []
  inside : {bytes : List ℕ} {passed feeds : ℕ} {vars : Vars} (begin end : ℕ) (c : Code) (vars' : Vars) (text : List ℕ) → IsFirstStatement bytes begin end c
      → Breaks budget (meaning c) vars vars' text → LeftFrom budget keep bytes passed feeds vars (marked out text)
  telling : {bytes : List ℕ} {passed feeds : ℕ} {vars : Vars} {front : Record} (end : ℕ) (vars' : Vars) (r : Record) → GoesOn budget keep bytes passed feeds end vars vars' r
      → IsFrontOf front r → LeftFrom budget keep bytes passed feeds vars front
  behind : {bytes : List ℕ} {passed feeds : ℕ} {vars : Vars} (end : ℕ) (vars' : Vars) (r more : Record) → GoesOn budget keep bytes passed feeds end vars vars' r
      → LeftFrom budget keep (drop end bytes) (passed + end) (feeds + count_of_line_feeds (take end bytes)) vars' more → LeftFrom budget keep bytes passed feeds vars (r ++ more)

-- a play of a script was left when it had written this
abbrev pub IsLeft : List ℕ → ℕ → Bool → Record → Type 0
IsLeft bytes budget keep r = LeftFrom budget keep bytes 0 0 [] r
