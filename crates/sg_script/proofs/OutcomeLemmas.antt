-- Each text has one outcome at most.
use Rattle.std.proofs.Common.{Result, Ok, Err, IfOk, ◌≡◌, ℕ, List, refl, ap, subst}
use Rattle.sg_token.proofs.FallLemmas.{one-list}
use Rattle.sg_tree.specs.Tree.{Code}
use Rattle.sg_tree.specs.TreeView.{code_of}
use Rattle.sg_tree.specs.WellFormed.{IsWellFormedCode}
use Rattle.sg_tree.specs.declared.stmt.Stmt.{Stmt}
use Rattle.sg_script.specs.declared.fault.ParseFault.{ParseFault}
use Rattle.sg_script.specs.declared.fault.ParseFault.TheVariants as fault
use Rattle.sg_script.specs.Depth.{IsDeep}
use Rattle.sg_script.specs.Grammar.{IsStatement}
use Rattle.sg_script.specs.Outcome.{Outcome, a_tree, IsReadAs, torn, deep, parsed, unparsed, Tells}
use Rattle.sg_script.proofs.UniqueStatementLemmas.{one-code}
use Rattle.sg_script.proofs.WellFormedLemmas.{good-statement}

-- a text has one outcome at most
pub one-outcome : {text : List ℕ} {a b : Outcome} → IsReadAs text a → IsReadAs text b → a ≡ b
one-outcome (torn none) (torn other) = refl
one-outcome (torn none) (deep {ts = ts} f d) = absurd (none ts f)
one-outcome (torn none) (parsed {ts = ts} f n s) = absurd (none ts f)
one-outcome (torn none) (unparsed {ts = ts} f n s) = refl
one-outcome (deep {ts = ts} f d) (torn none) = absurd (none ts f)
one-outcome (deep f d) (deep g e) = refl
one-outcome (deep f d) (parsed g n s) = absurd (n (subst IsDeep (one-list f g) d))
one-outcome (deep f d) (unparsed g n s) = absurd (n (subst IsDeep (one-list f g) d))
one-outcome (parsed {ts = ts} f n s) (torn none) = absurd (none ts f)
one-outcome (parsed f n s) (deep g d) = absurd (n (subst IsDeep (one-list g f) d))
one-outcome (parsed {c = c} f n s) (parsed g m r) = ap a_tree (one-code (subst (λ ts. IsStatement ts c) (one-list f g) s) r)
one-outcome (parsed {c = c} f n s) (unparsed g m none) = absurd (none c (subst (λ ts. IsStatement ts c) (one-list f g) s))
one-outcome (unparsed f n none) (torn other) = refl
one-outcome (unparsed f n none) (deep g d) = absurd (n (subst IsDeep (one-list g f) d))
one-outcome (unparsed f n none) (parsed {c = c} g m s) = absurd (none c (subst (λ ts. IsStatement ts c) (one-list g f) s))
one-outcome (unparsed f n none) (unparsed g m other) = refl

-- what an answer tells is the only outcome
pub tells-only : {text : List ℕ} (r : Result Stmt ParseFault) → Tells r (λ o. IsReadAs text o) → (other : Outcome) → IsReadAs text other → Tells r (λ o. o ≡ other)
tells-only (Ok stmt) h other e = one-outcome h e
tells-only (Err fault.Syntax) h other e = one-outcome h e
tells-only (Err fault.Depth) h other e = one-outcome h e
tells-only (Err (fault.Memory cause)) h other e = tt

good-tree : {text : List ℕ} {c : Code} → IsReadAs text (a_tree c) → IsWellFormedCode c
good-tree (parsed f n s) = good-statement s

-- the tree that an answer tells is well formed
pub tells-good : (text : List ℕ) (r : Result Stmt ParseFault) → Tells r (λ o. IsReadAs text o) → IfOk r (λ stmt. IsWellFormedCode (code_of stmt))
tells-good text (Ok stmt) h = good-tree h
tells-good text (Err e) h = tt
