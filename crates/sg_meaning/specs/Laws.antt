-- What is true of all statements.
use Rattle.std.specs.Prelude.{◌≡◌, ℕ, List, Result, ⊤}
use Rattle.sg_tree.specs.Tree.{Code}
use Rattle.sg_rows.specs.Asks.{Asking}
use Rattle.sg_rows.specs.Order.{Reply}
use Rattle.sg_rows.specs.declared.fault.Fault.{Fault}
use Rattle.sg_meaning.specs.Queries.{Query, IsAnswer}
use Rattle.sg_meaning.specs.Process.{Runs}
use Rattle.sg_meaning.specs.Statements.{Going, whole}
use Rattle.sg_meaning.specs.Vars.{Vars}
use Rattle.sg_meaning.specs.Lawful.{AreLawfulVars, IsLawfulQuery, SomeEnd}
use Rattle.sg_rows.specs.Lawful.{SomeReply}

-- a query is answered, and a statement over variables ends, in at most one way, and what is asked for is one list
pub record OneOutcome : Type 0 where
  pub answers : (n : ℕ) (q : Query) (r s : Reply) (xs ys : List Asking) → IsAnswer n q r xs → IsAnswer n q s ys → (r ≡ s) × (xs ≡ ys)
  pub statements : (n : ℕ) (stmt : Code) (vars : Vars) (end end' : Result Going Fault) (vars' vars'' : Vars) (bs bs' : List ℕ) (xs ys : List Asking)
      → Runs n (whole stmt) vars end vars' bs xs → Runs n (whole stmt) vars end' vars'' bs' ys → (end ≡ end') × (vars' ≡ vars'') × (bs ≡ bs') × (xs ≡ ys)

-- a query about lawful values is answered, and a statement over lawful variables ends and leaves such
pub record SomeOutcome : Type 0 where
  pub answers : (n : ℕ) (q : Query) → IsLawfulQuery q → SomeReply (λ r. (asked : List Asking) × IsAnswer n q r asked)
  pub statements : (n : ℕ) (stmt : Code) (vars : Vars) → AreLawfulVars vars → SomeEnd n (λ g. ⊤) (whole stmt) vars
