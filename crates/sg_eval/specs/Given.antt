-- The arguments of a call, one by one.
use Rattle.std.specs.Prelude.{◌≡◌, [], ◌∷◌, ◌++◌, Option, Some, None, Vec, ⊤}
use Rattle.std.specs.Global.{Global}
use Rattle.sg_value.specs.Data.{Items}
use Rattle.sg_value.specs.Plain.{Named, AllKnown, plain, Things}
use Rattle.sg_value.specs.declared.value.Value.{Value}
use Rattle.sg_tree.specs.Tree.{Argument, plain as plain_argument, arrow}
use Rattle.sg_rows.specs.Order.{Plain}
use Rattle.sg_meaning.specs.Expressions.{eval}
use Rattle.sg_eval.specs.Outcomes.{plain_in, known_in}
use Rattle.sg_meaning.specs.Process.{Process, gives, ◌>>=◌}
use Rattle.sg_meaning.specs.Vars.{Vars}

abbrev pub plain_if : Named → Option Value → Option Plain
plain_if names None = None
plain_if names (Some v) = Some (plain names v)

abbrev pub known_if : Named → Option Value → Type 0
known_if names None = ⊤
known_if names (Some v) = AllKnown names v

abbrev pub plain_where : Named → Option (Vec Value Global) → Option (Items Things)
plain_where names None = None
plain_where names (Some vs) = Some (plain_in names vs)

abbrev pub known_where : Named → Option (Vec Value Global) → Type 0
known_where names None = ⊤
known_where names (Some vs) = known_in names vs

-- the value of an argument, or none where it is an arrow
abbrev pub eval_argument : Vars → Argument → Process (Option Plain)
eval_argument env (plain_argument t) = eval env t >>= (λ d. gives (Some d))
eval_argument env (arrow x t) = gives None

-- values with one more, where there is none missing
abbrev pub IsWith : Option (Vec Value Global) → Option Value → Option (Vec Value Global) → Type 0
IsWith None found all = all ≡ None
IsWith (Some vs) None all = all ≡ None
IsWith (Some vs) (Some v) None = ⊥
IsWith (Some vs) (Some v) (Some ws) = ws.items ≡ vs.items ++ v ∷ []
