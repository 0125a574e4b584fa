-- Integers and truth values that are there at once: nothing is asked of the store, and nothing changes.
use Rattle.std.specs.Prelude.{◌≡◌, ℕ, ℤ, [], Bool, Some, Ok}
use Rattle.sg_value.specs.Data.{int, truth}
use Rattle.sg_value.specs.Plain.{Named, AllKnown, plain}
use Rattle.sg_value.specs.declared.value.Value.TheVariants as value
use Rattle.sg_rows.specs.Order.{Plain}
use Rattle.sg_calls.specs.declared.operator.Operator.{Operator}
use Rattle.sg_tree.specs.declared.expr.Op.{Op}
use Rattle.sg_tree.specs.declared.expr.Rel.{Rel}
use Rattle.sg_meaning.specs.Expressions.{relation}
use Rattle.sg_eval.specs.Linked.{arithmetic}
use Rattle.sg_eval.specs.Outcomes.{Evaluates}
use Rattle.sg_meaning.specs.Process.{Process}
use Rattle.sg_meaning.specs.Queries.{combines, IsAnswer}
use Rattle.sg_eval.specs.State.{State}

-- a process gives this integer, over a machine as it is
abbrev pub GivesInteger : State → (Named → Process Plain) → ℤ → Type 0
GivesInteger s p z = Evaluates plain AllKnown (Ok (value.Int z)) s s p

-- a process gives this truth value, over a machine as it is
abbrev pub GivesTruth : State → (Named → Process Plain) → Bool → Type 0
GivesTruth s p b = Evaluates plain AllKnown (Ok (value.Bool b)) s s p

-- an operator of a chain gives this integer of two, within any budget, and asks for nothing
abbrev pub Calculates : Op → ℤ → ℤ → ℤ → Type 0
Calculates op x y z = (o : Operator) × (arithmetic op ≡ Some o) × ((n : ℕ) → IsAnswer n (combines o (int x) (int y)) (Ok (int z)) [])

-- two integers compare so, within any budget, and nothing is asked for
abbrev pub Compares : Rel → ℤ → ℤ → Bool → Type 0
Compares rel x y b = (n : ℕ) → IsAnswer n (combines (relation rel) (int x) (int y)) (Ok (truth b)) []
