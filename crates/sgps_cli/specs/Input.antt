-- The input that the words name, as a source may tell it, and the script that is played.
use Rattle.std.specs.Prelude.{◌≡◌, ℕ, ◌++◌, List, Option, Some, None, IfSome, IsSome, ⊤}
use Rattle.sg_drill.specs.Script.{drill_script}
use Rattle.sg_io.specs.Inputs.{Input, input_named}
use Rattle.sg_words.specs.Settings.{Wanted}

-- b are the bytes of the input of this name, where the source tells its inputs
abbrev pub IsInput : Option (List Input) → Option (List ℕ) → List ℕ → Type 0
IsInput inputs name b = IfSome inputs (λ is. input_named name is ≡ Some b)

-- the source has the input of this name, where it tells its inputs; a drill needs none
abbrev pub HasNamed : Option ℕ → Option (List ℕ) → Option (List Input) → Type 0
HasNamed None name inputs = IfSome inputs (λ is. IsSome (input_named name is))
HasNamed (Some statements) name inputs = ⊤

-- the input that the words name is there, where the source tells its inputs; refused words, and a drill, name none
abbrev pub HasInput : Option Wanted → Option (List Input) → Type 0
HasInput None inputs = ⊤
HasInput (Some wanted) inputs = HasNamed wanted.drill wanted.file inputs

-- words that name no input: they are refused, or name a drill
abbrev pub NamesNoInput : Option Wanted → Type 0
NamesNoInput None = ⊤
NamesNoInput (Some wanted) = IsSome wanted.drill

-- b is the script, as it is told: that of a drill with so many statements, or the input that the source tells under this name
abbrev pub TellsScript : Option ℕ → Option (List ℕ) → Option (List Input) → List ℕ → Type 0
TellsScript (Some statements) name inputs b = b ≡ drill_script statements
TellsScript None name inputs b = (listed : List Input) × (inputs ≡ Some listed) × (input_named name listed ≡ Some b)

-- t is the part of the input that is not left, where the source tells its inputs
pub record IsTaken (inputs : Option (List Input)) (name left : Option (List ℕ)) (t : List ℕ) : Type 0 where
  pub rest : List ℕ
  pub input : IsInput inputs name (t ++ rest)
  pub left_over : IfSome left (λ bytes. bytes ≡ rest)
