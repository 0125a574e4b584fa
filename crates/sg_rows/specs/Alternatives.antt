-- Commands and operators that take arguments of several kinds.
use Rattle.std.specs.Prelude.{⊤}
use Rattle.sg_rows.specs.Order.{Case, unfit, fits}

-- what the first says, where it takes arguments of these kinds, else what the second says
abbrev pub or_else : Case → Case → Case
or_else unfit c = c
or_else (fits asked row) c = fits asked row

-- arguments of these kinds are taken
abbrev pub Takes : Case → Type 0
Takes unfit = ⊥
Takes (fits asked row) = ⊤
