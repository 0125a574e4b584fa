-- What is true of all answers.
use Rattle.std.specs.Prelude.{◌≡◌, ℕ, List}
use Rattle.sg_value.specs.Plain.{Things}
use Rattle.sg_value.specs.Data.{Items}
use Rattle.sg_rows.specs.Asks.{Asking}
use Rattle.sg_rows.specs.Order.{Plain, Reply, IsReply, AreAsked}
use Rattle.sg_rows.specs.Lawful.{IsLawful, AreLawful, SomeReply}
use Rattle.sg_calls.specs.Operations.{operation, negation}
use Rattle.sg_calls.specs.Answers.{Answer}
use Rattle.sg_calls.specs.declared.operator.Operator.{Operator}

-- an operator answers operands, and this is asked for on the way
abbrev pub Combines : ℕ → Operator → Plain → Plain → Reply → List Asking → Type 0
Combines budget op a b r asked = IsReply (operation budget op a b) r × AreAsked (operation budget op a b) asked

-- a command answers arguments, an operator its operands and the minus sign its operand in at most one way, on which the
-- same is asked for
pub record OneAnswer : Type 0 where
  pub commands : (n : ℕ) (name : List ℕ) (args : Items Things) (r s : Reply) (xs ys : List Asking) → Answer n name args r xs → Answer n name args s ys → (r ≡ s) × (xs ≡ ys)
  pub operators : (n : ℕ) (op : Operator) (a b : Plain) (r s : Reply) (xs ys : List Asking) → Combines n op a b r xs → Combines n op a b s ys → (r ≡ s) × (xs ≡ ys)
  pub sign : (a : Plain) (r s : Reply) → IsReply (negation a) r → IsReply (negation a) s → r ≡ s

-- a command answers lawful arguments, an operator lawful operands and the minus sign its operand, each with a lawful
-- value or a fault
pub record SomeAnswer : Type 0 where
  pub commands : (n : ℕ) (name : List ℕ) (args : Items Things) → AreLawful args → SomeReply (λ r. (asked : List Asking) × Answer n name args r asked)
  pub operators : (n : ℕ) (op : Operator) (a b : Plain) → IsLawful a → IsLawful b → SomeReply (λ r. (asked : List Asking) × Combines n op a b r asked)
  pub sign : (a : Plain) → SomeReply (IsReply (negation a))
