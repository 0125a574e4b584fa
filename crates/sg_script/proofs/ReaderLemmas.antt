-- Answers of the reader, by the answers of its parts.
use Rattle.std.proofs.Common.{arith, ◌≡◌, ℕ, List, [], length, true, false, Vec, Global, Result, Err, IsErrAnd, refl, sym, subst}
use Rattle.std.specs.Prelude.{◌==◌, IsErrOf}
use Rattle.std.proofs.lemmas.Bool.Decides.{nat_tests}
use Rattle.std.proofs.lemmas.List.{nil_from_length}
use Rattle.std.proofs.lemmas.Result.{err_from_is_err_and}
use Rattle.sg_token.specs.declared.token.Token.{Token}
use Rattle.sg_token.specs.declared.token.TokenFault.{TokenFault}
use Rattle.sg_token.specs.declared.token.TokenFault.TheVariants as token_fault
use Rattle.sg_token.specs.Tokens.{FallsInto}
use Rattle.sg_tree.specs.declared.stmt.Stmt.{Stmt}
use Rattle.sg_script.specs.declared.fault.ParseFault.{ParseFault}
use Rattle.sg_script.specs.Depth.{IsDeep}
use Rattle.sg_script.specs.Faults.{IsSameFault}
use Rattle.sg_script.specs.Outcome.{IsReadAs, torn, unparsed, Tells, IsMadeOf}

-- a list of tokens without length is empty
pub empty-list : (xs : List Token) → (length xs == 0) ≡ true → xs ≡ []
empty-list xs e = nil_from_length xs (grind (arith, nat_tests))

-- and one with a length is not
pub filled-list : (xs : List Token) → (length xs == 0) ≡ false → xs ≡ [] → ⊥
filled-list xs e n = let test = subst (λ ys. (length ys == 0) ≡ false) n e in absurd (cc)

-- where the text falls into no tokens
pub told-torn : {text : List ℕ} (e : TokenFault) (r : Result Stmt ParseFault) → IsErrAnd r (λ y. IsSameFault e y) → (IsErrOf {T = Vec Token Global} (Err e) token_fault.Syntax → (ts : List Token) → FallsInto text ts → ⊥) → Tells r (λ o. IsReadAs text o)
told-torn {text} e r failed h =
    let q = err_from_is_err_and r failed in
    subst (λ s. Tells s (λ o. IsReadAs text o)) (sym q.1) (go e q.0 q.2 h)
  where
    go : (d : TokenFault) (y : ParseFault) → IsSameFault d y → (IsErrOf {T = Vec Token Global} (Err d) token_fault.Syntax → (ts : List Token) → FallsInto text ts → ⊥) → Tells (Err y) (λ o. IsReadAs text o)
    go token_fault.Syntax y same h = subst (λ f. Tells (Err f) (λ o. IsReadAs text o)) (sym same) (torn (h refl))
    go (token_fault.Memory cause) y same h = subst (λ f. Tells (Err f) (λ o. IsReadAs text o)) (sym same) tt

-- where the tokens are no statement
pub told-unparsed : {text : List ℕ} {ts : List Token} (e : TokenFault) (r : Result Stmt ParseFault) → IsErrAnd r (λ y. IsSameFault e y) → FallsInto text ts → (IsDeep ts → ⊥) → IsMadeOf ts (Err e) → Tells r (λ o. IsReadAs text o)
told-unparsed {text} {ts} e r failed f n h =
    let q = err_from_is_err_and r failed in
    subst (λ s. Tells s (λ o. IsReadAs text o)) (sym q.1) (go e q.0 q.2 h)
  where
    go : (d : TokenFault) (y : ParseFault) → IsSameFault d y → IsMadeOf ts (Err d) → Tells (Err y) (λ o. IsReadAs text o)
    go token_fault.Syntax y same h = subst (λ z. Tells (Err z) (λ o. IsReadAs text o)) (sym same) (unparsed f n h)
    go (token_fault.Memory cause) y same h = subst (λ z. Tells (Err z) (λ o. IsReadAs text o)) (sym same) tt
