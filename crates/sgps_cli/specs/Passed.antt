-- The statements that were refused and passed.
use Rattle.std.specs.Prelude.{◌≡◌, ℕ, ◌+◌, ◌==◌, ◌⊎◌, List, [], ◌∷◌, ◌++◌, length, if◌then◌else◌}
use Rattle.sg_rows.specs.declared.fault.Fault.{Fault}
use Rattle.sg_rows.specs.declared.fault.Fault.TheVariants as fault
use Rattle.sg_play.specs.Record.{Refusal}
use Rattle.sgps_cli.specs.declared.ending.Cause.{Cause}
use Rattle.sgps_cli.specs.declared.ending.Cause.TheVariants as cause
use Rattle.sgps_cli.specs.declared.passed.Passed.{Passed}

-- so many statements were refused, the last of them in this line
pub record HasRefusals (refusals : List Refusal) (count line : ℕ) : Type 0 where
  pub before : List Refusal
  pub last : Fault
  pub all : refusals ≡ before ++ (last, line) ∷ []
  pub counted : length refusals ≡ count

-- what is kept of them: none, or how many, and the line of the last
abbrev pub AreCounted : List Refusal → Passed → Type 0
AreCounted refusals passed = (passed.count ≡ 0) × (refusals ≡ []) ⊎ HasRefusals refusals passed.count passed.line

-- one more was refused in this line
abbrev pub with_one : Passed → ℕ → Passed
with_one passed line = record { count = passed.count + 1; line = line }

-- the end of a script that was played to its end
abbrev pub end_of : Passed → Cause
end_of passed = if passed.count == 0 then cause.Ok else cause.Refusals passed.count passed.line

-- the end at a statement that is refused
abbrev pub refusal_of : Fault → ℕ → Cause
refusal_of fault.Budget line = cause.Budget line
refusal_of f line = cause.Script f line
