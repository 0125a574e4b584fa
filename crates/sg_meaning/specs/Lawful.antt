-- Variables and queries whose semigroups and ideals are such as a script can make.
use Rattle.std.specs.Prelude.{ℕ, List, [], ◌∷◌, Result, IfOk, ⊤}
use Rattle.sg_rows.specs.Asks.{Asking}
use Rattle.sg_rows.specs.Lawful.{IsLawful, AreLawful}
use Rattle.sg_rows.specs.declared.fault.Fault.{Fault}
use Rattle.sg_meaning.specs.Process.{Process, Runs}
use Rattle.sg_meaning.specs.Queries.{Query, calls, combines, negates, lists, spans, indexes}
use Rattle.sg_meaning.specs.Vars.{Vars}

-- the value of each variable is lawful
abbrev pub AreLawfulVars : Vars → Type 0
AreLawfulVars [] = ⊤
AreLawfulVars (v ∷ vs) = IsLawful v.1 × AreLawfulVars vs

-- all that is asked about is lawful
abbrev pub IsLawfulQuery : Query → Type 0
IsLawfulQuery (calls c args) = AreLawful args
IsLawfulQuery (combines op a b) = IsLawful a × IsLawful b
IsLawfulQuery (negates a) = IsLawful a
IsLawfulQuery (lists ds) = AreLawful ds
IsLawfulQuery (spans a b) = IsLawful a × IsLawful b
IsLawfulQuery (indexes a i) = IsLawful a × IsLawful i

-- it ends from these variables, where it gives something with L, and leaves lawful variables
abbrev pub SomeEnd : {A : Type 0} → ℕ → (A → Type 0) → Process A → Vars → Type 0
SomeEnd {A} n L p vars = (end : Result A Fault) × (vars' : Vars) × (bs : List ℕ) × (asked : List Asking) × Runs n p vars end vars' bs asked × IfOk end L × AreLawfulVars vars'
