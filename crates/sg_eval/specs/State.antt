-- What a machine holds, as contracts see it.
use Rattle.std.specs.Prelude.{◌≡◌, ℕ, List, map, All, Vec}
use Rattle.sg_value.specs.Known.{Known, named}
use Rattle.std.specs.Global.{Global}
use Rattle.sg_value.specs.declared.value.Value.{Value}
use Rattle.sg_value.specs.Plain.{plain, AllKnown}
use Rattle.sg_store.specs.Attributes.{Attributes}
use Rattle.sg_meaning.specs.Vars.{Vars}
use Rattle.sg_eval.specs.declared.variable.Variable.{Variable}

-- each name with its plain value
abbrev pub vars_of : Known → List Variable → Vars
vars_of names vs = map (λ v. (v.name, plain (named names) v.value)) vs

-- the same for variables that are found by their names
abbrev pub values_of : Known → List (Vec ℕ Global × Value) → Vars
values_of names es = map (λ e. (e.0.items, plain (named names) e.1)) es

-- each semigroup and each ideal in the values is known
abbrev pub AreKnown : Known → List Variable → Type 0
AreKnown names vs = All (λ v. AllKnown (named names) v.value) vs

abbrev pub AreKnownIn : Known → List (Vec ℕ Global × Value) → Type 0
AreKnownIn names es = All (λ e. AllKnown (named names) e.1) es

-- what the store knows and keeps, the variables, the parameters of the arrows around, the nearest first, and the budget
-- of steps of each call
pub record State : Type 0 where
  pub names : Known
  pub attributes : Attributes
  pub variables : Vars
  pub parameters : Vars
  pub budget : ℕ

-- what the store knows and keeps is as it was, and so is the budget
pub record SameStore (s s' : State) : Type 0 where
  pub names : s'.names ≡ s.names
  pub attributes : s'.attributes ≡ s.attributes
  pub budget : s'.budget ≡ s.budget
