-- Variables and parameters, each name with its value; the first of a name counts.
use Rattle.std.specs.Prelude.{ℕ, List, [], ◌∷◌, Option, if◌then◌else◌}
use Rattle.std.specs.Map.{lookup}
use Rattle.std.specs.Str.{bytes_eq}
use Rattle.sg_rows.specs.Order.{Plain}

abbrev pub Vars : Type 0
Vars = List (List ℕ × Plain)

-- the value of a name, if it has one
abbrev pub value_at : Vars → List ℕ → Option Plain
value_at vars x = lookup (bytes_eq x) vars

-- after a name got this value
abbrev pub with_value : List ℕ → Plain → Vars → Vars
with_value x d [] = (x, d) ∷ []
with_value x d (v ∷ vs) = if bytes_eq x v.0 then (x, d) ∷ vs else v ∷ with_value x d vs
