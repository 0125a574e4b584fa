-- What a run has written, and how it ended.
use Rattle.std.specs.Prelude.{◌≡◌, ℕ, List, ◌++◌, map, Option}
use Rattle.sg_rows.specs.Asks.{Asking}
use Rattle.sg_rows.specs.declared.fault.Fault.{Fault}

-- where a byte goes
pub data Mark : Type 0 where
  out : Mark
  err : Mark

-- bytes, each marked as going to `out` or to `err`, in the order in which they are written
abbrev pub Record : Type 0
Record = List (Mark × ℕ)

-- these bytes, all to one place
abbrev pub marked : Mark → List ℕ → Record
marked m bytes = map (λ b. (m, b)) bytes

-- the first list is a front of the second
abbrev pub IsFrontOf : {A : Type 0} → List A → List A → Type 0
IsFrontOf {A} front whole = (rest : List A) × (whole ≡ front ++ rest)

-- a statement that is refused: its fault and its line
abbrev pub Refusal : Type 0
Refusal = Fault × ℕ

-- how a play ends: at the end of the script or at `quit;`, at a statement that is refused, with its line, or where more
-- of the script is wanted
pub data Ending : Type 0 where
  done : Ending
  refused : Fault → ℕ → Ending
  waiting : Ending

-- what a play came to: what was written, which attributes of semigroups were asked for, which statements were refused and
-- passed, how it ended, and how many bytes stand before the statement that ended it, where one did
pub record Played : Type 0 where
  pub written : Record
  pub asked : List Asking
  pub refusals : List Refusal
  pub ending : Ending
  pub place : Option ℕ

-- the same, after this was written and asked for, and these statements were passed
abbrev pub after : Record → List Asking → List Refusal → Played → Played
after r asked refusals p = record { written = r ++ p.written; asked = asked ++ p.asked; refusals = refusals ++ p.refusals; ending = p.ending; place = p.place }
