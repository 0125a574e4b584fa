-- A variable's list that grows in its place.
use Rattle.std.specs.Prelude.{◌≡◌, ℕ, List, codes, None, Result, Ok, Err}
use Rattle.sg_value.specs.Data.{Items, item}
use Rattle.sg_value.specs.Known.{named}
use Rattle.sg_value.specs.Plain.{Named, AllKnown, plain, Things}
use Rattle.sg_value.specs.declared.value.Value.{Value}
use Rattle.sg_rows_lists.specs.declared.lists.ListCommand.TheVariants.{Concatenation}
use Rattle.sg_rows.specs.declared.fault.CallFault.{CallFault}
use Rattle.sg_rows.specs.Order.{Plain}
use Rattle.sg_calls.specs.declared.command.Command.TheVariants.{Lists}
use Rattle.sg_tree.specs.Tree.{Tree, Arguments, call, argument, variable, plain as plain_argument}
use Rattle.sg_meaning.specs.Expressions.{looked_up, ask}
use Rattle.sg_eval.specs.Outcomes.{Evaluates}
use Rattle.sg_meaning.specs.Process.{Process, ◌>>=◌}
use Rattle.sg_meaning.specs.Queries.{calls}
use Rattle.sg_eval.specs.State.{State}
use Rattle.sg_meaning.specs.Vars.{Vars, with_value}

-- a call of Concatenation whose first argument is a name
abbrev pub onto : List ℕ → Arguments → Tree
onto x others = call (codes "Concatenation") (argument (plain_argument (variable x)) others)

-- the list of a variable and then these lists, as that command joins them
abbrev pub joined_onto : List ℕ → Items Things → Process Plain
joined_onto x lists = looked_up None x >>= (λ d. ask (calls (Lists Concatenation) (item d lists)))

-- the variable has what the process gives, or that is refused and the variables are as they were
abbrev pub Grows : Result (Unit {0}) CallFault → State → Vars → List ℕ → (Named → Process Plain) → Type 0
Grows (Ok u) s vars x p = (v : Value) × Evaluates plain AllKnown (Ok v) s s p × (vars ≡ with_value x (plain (named s.names) v) s.variables)
Grows (Err e) s vars x p = Evaluates plain AllKnown (Err e) s s p × (vars ≡ s.variables)
