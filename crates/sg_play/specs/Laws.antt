-- What is true of all plays.
use Rattle.std.specs.Prelude.{◌≡◌, ℕ, Bool, false, List, ◌++◌}
use Rattle.sg_play.specs.Record.{Record, Played, waiting, IsFrontOf}
use Rattle.sg_play.specs.Play.{Play}
use Rattle.sg_play.specs.Left.{IsLeft}

-- some bytes are played in at most one way
abbrev pub OnePlay : Type 0
OnePlay = (bytes : List ℕ) (whole : Bool) (budget : ℕ) (keep : Bool) (p q : Played) → Play bytes whole budget keep p → Play bytes whole budget keep q → p ≡ q

-- any bytes are played
abbrev pub SomePlay : Type 0
SomePlay = (bytes : List ℕ) (whole : Bool) (budget : ℕ) (keep : Bool) → (p : Played) × Play bytes whole budget keep p

-- a play that has ended stays as it is, whatever follows its bytes; where more is wanted, what was written is a front of
-- what the longer play writes, the statements that were passed are the first that it passes, and what was asked for is
-- what it asks for first
pub record Extends : Type 0 where
  pub ended : (bytes more : List ℕ) (whole : Bool) (budget : ℕ) (keep : Bool) (p : Played) → (p.ending ≡ waiting → ⊥) → Play bytes false budget keep p → Play (bytes ++ more) whole budget keep p
  pub waits : (bytes more : List ℕ) (whole : Bool) (budget : ℕ) (keep : Bool) (p q : Played) → p.ending ≡ waiting → Play bytes false budget keep p → Play (bytes ++ more) whole budget keep q → IsFrontOf p.written q.written
  pub passes : (bytes more : List ℕ) (whole : Bool) (budget : ℕ) (keep : Bool) (p q : Played) → p.ending ≡ waiting → Play bytes false budget keep p → Play (bytes ++ more) whole budget keep q → IsFrontOf p.refusals q.refusals
  pub asks : (bytes more : List ℕ) (whole : Bool) (budget : ℕ) (keep : Bool) (p q : Played) → p.ending ≡ waiting → Play bytes false budget keep p → Play (bytes ++ more) whole budget keep q → IsFrontOf p.asked q.asked

-- what a play has written that was left is a front of what the whole play writes, also over more bytes
pub record LeftInFront : Type 0 where
  pub front : (bytes : List ℕ) (r : Record) (whole : Bool) (budget : ℕ) (keep : Bool) (p : Played) → IsLeft bytes budget keep r → Play bytes whole budget keep p → IsFrontOf r p.written
  pub longer : (bytes more : List ℕ) (r : Record) (budget : ℕ) (keep : Bool) → IsLeft bytes budget keep r → IsLeft (bytes ++ more) budget keep r
