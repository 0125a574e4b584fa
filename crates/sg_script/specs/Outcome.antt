-- What a text is read as.
use Rattle.std.specs.Prelude.{ℕ, List, Result, Ok, Err}
use Rattle.sg_token.specs.declared.token.Token.{Token}
use Rattle.sg_token.specs.declared.token.TokenFault.{TokenFault}
use Rattle.sg_token.specs.declared.token.TokenFault.TheVariants as token_fault
use Rattle.sg_token.specs.Tokens.{FallsInto}
use Rattle.sg_tree.specs.Tree.{Code}
use Rattle.sg_tree.specs.TreeView.{code_of}
use Rattle.sg_tree.specs.declared.stmt.Stmt.{Stmt}
use Rattle.sg_script.specs.Depth.{IsDeep}
use Rattle.sg_script.specs.Grammar.{IsStatement}
use Rattle.sg_script.specs.declared.fault.ParseFault.{ParseFault}
use Rattle.sg_script.specs.declared.fault.ParseFault.TheVariants as fault

-- a tree, or why there is none
pub data Outcome : Type 0 where
  a_tree : Code → Outcome
  too_deep : Outcome
  no_statement : Outcome

-- the text falls into no tokens; or its tokens nest too deeply; or they are a statement, or none
pub data IsReadAs : List ℕ → Outcome → Type 0 where
  torn : {text : List ℕ} → ((ts : List Token) → FallsInto text ts → ⊥) → IsReadAs text no_statement
  deep : {text : List ℕ} {ts : List Token} → FallsInto text ts → IsDeep ts → IsReadAs text too_deep
  parsed : {text : List ℕ} {ts : List Token} {c : Code} → FallsInto text ts → (IsDeep ts → ⊥) → IsStatement ts c → IsReadAs text (a_tree c)
  unparsed : {text : List ℕ} {ts : List Token} → FallsInto text ts → (IsDeep ts → ⊥) → ((c : Code) → IsStatement ts c → ⊥) → IsReadAs text no_statement

-- a property of the outcome that an answer tells, or of none where memory is wanting
abbrev pub Tells : Result Stmt ParseFault → (Outcome → Type 0) → Type 0
Tells (Ok stmt) P = P (a_tree (code_of stmt))
Tells (Err fault.Syntax) P = P no_statement
Tells (Err fault.Depth) P = P too_deep
Tells (Err (fault.Memory cause)) P = Unit {0}

-- tokens are the statement that was made, or none
abbrev pub IsMadeOf : List Token → Result Stmt TokenFault → Type 0
IsMadeOf ts (Ok stmt) = IsStatement ts (code_of stmt)
IsMadeOf ts (Err token_fault.Syntax) = (c : Code) → IsStatement ts c → ⊥
IsMadeOf ts (Err (token_fault.Memory cause)) = Unit {0}
