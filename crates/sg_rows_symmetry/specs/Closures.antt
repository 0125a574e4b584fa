-- Closures by their kinds.
use Rattle.std.specs.Prelude.{ℕ, List}
use Rattle.sg_defs.specs.Closures.{IsArfClosure, IsMedClosure, IsSaturatedClosure}
use Rattle.sg_rows_symmetry.specs.declared.shape.Closure.{Closure}
use Rattle.sg_rows_symmetry.specs.declared.shape.Closure.TheVariants.{Arf, Med, Saturated}

-- H is the least semigroup of the kind that holds G
abbrev pub IsClosure : Closure → List ℕ → List ℕ → Type 0
IsClosure Arf G H = IsArfClosure G H
IsClosure Med G H = IsMedClosure G H
IsClosure Saturated G H = IsSaturatedClosure G H
