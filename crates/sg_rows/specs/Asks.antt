-- What rows ask for of the semigroups among their arguments.
use Rattle.std.specs.Prelude.{ℕ, List, [], ◌∷◌, ◌++◌, map}

-- what is kept of a semigroup once it was asked for: its Apery table, its pseudo-Frobenius numbers, its canonical minimal
-- presentation, its tame degree
pub data Attribute : Type 0 where
  apery_table : Attribute
  pseudo_frobenius : Attribute
  presentation : Attribute
  tame_degree : Attribute

-- an attribute of the semigroup with these minimal generators was asked for
abbrev pub Asking : Type 0
Asking = Attribute × List ℕ

-- each attribute in turn is asked for of each semigroup in turn
abbrev pub asked_of : List Attribute → List (List ℕ) → List Asking
asked_of [] semigroups = []
asked_of (a ∷ letters) semigroups = map (λ G. (a, G)) semigroups ++ asked_of letters semigroups

-- nothing is asked for
abbrev pub nothing : {A : Type 0} → A → List Asking
nothing _ = []
