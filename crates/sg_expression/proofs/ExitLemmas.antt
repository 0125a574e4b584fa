-- Answers of calls inside answers of the whole.
use Rattle.std.proofs.Common.{◌≡◌, ◌+◌, List, [], ◌∷◌, append-nil, Result, Ok, Err, IsErrAnd, sym, ap, ◌∙◌, subst}
use Rattle.std.proofs.lemmas.Result.{err_from_is_err_and}
use denote.Ref.{Bor}
use Rattle.sg_token.specs.declared.token.Token.{Token}
use Rattle.sg_token.specs.declared.token.TokenFault.{TokenFault}
use Rattle.sg_token.specs.declared.token.TokenFault.TheVariants.{Syntax, Memory}
use Rattle.sg_tree.specs.Tree.{Tree, compare}
use Rattle.sg_tree.specs.declared.expr.Op.{Op}
use Rattle.sg_tree.specs.declared.expr.Rel.{Rel}
use Rattle.sg_expression.specs.declared.rank.Rank.{Rank}
use Rattle.sg_expression.specs.declared.rank.Rank.TheVariants as rank
use Rattle.sg_expression.specs.Grammar.{Chain, Linked, Operand, Comparison}
use Rattle.sg_expression.specs.Reading.{Found, Nothing, Onward, Misses, Reads, Operates, Compares}
use Rattle.sg_expression.specs.Binding.{StopsAt, level}
use Rattle.sg_expression.proofs.OnwardLemmas.{onward-found}
use Rattle.sg_expression.proofs.ChainLemmas.{one-link, no-link, no-right, found-compared}

-- the exit where a call found nothing, inside a whole that is not there then
pub reads-exit : {Y A B : Type 0} (R : List Token → A → List Token → Type 0) (S : List Token → Type 0) (ts : List Token) (view : Y → B) (R' : List Token → B → List Token → Type 0) (S' : List Token → Type 0) (us : List Token)
    → (Nothing R S ts → Nothing R' S' us)
    → (r : Result (Y × Bor (List Token)) TokenFault) (e : TokenFault) → IsErrAnd r (λ y. y ≡ e) → Misses R S ts e → Reads view R' S' us r
reads-exit {Y} {A} {B} R S ts view R' S' us come r e failed h =
    let q = err_from_is_err_and r failed in
    subst (λ s. Reads view R' S' us s) (sym (q.1 ∙ ap Err q.2)) (go e h)
  where
    go : (d : TokenFault) → Misses R S ts d → Misses R' S' us d
    go Syntax n = come n
    go (Memory cause) n = tt

-- an answer that is passed on
pub reads-pass : {X A : Type 0} (view : X → A) (R : List Token → A → List Token → Type 0) (S : List Token → Type 0) (ts : List Token) (R' : List Token → A → List Token → Type 0) (S' : List Token → Type 0) (us : List Token)
    → ((a : A) (vs : List Token) → Found R S ts a vs → Found R' S' us a vs) → (Nothing R S ts → Nothing R' S' us)
    → (r : Result (X × Bor (List Token)) TokenFault) → Reads view R S ts r → Reads view R' S' us r
reads-pass view R S ts R' S' us passed refused (Ok x) f = passed (view x.0) x.1.now f
reads-pass view R S ts R' S' us passed refused (Err Syntax) n = refused n
reads-pass view R S ts R' S' us passed refused (Err (Memory cause)) n = tt

-- where the items are over
pub onward-end : {A : Type 0} {R : List Token → List A → List Token → Type 0} {S : List Token → Type 0} {ts us vs : List Token} {xs : List A} → Onward R S ts xs us → Found R S us [] vs → Found R S ts xs vs
onward-end {R = R} {S = S} {ts = ts} {vs = vs} {xs = xs} f g = subst (λ all. Found R S ts all vs) (append-nil xs) (onward-found f g)

-- one more operator, where it stands at the front
pub one-link-at : {r : Rank} {o : Op} {ts us vs : List Token} {t : Tree} → Operates ts r o us → Found (Operand r) (StopsAt (level r + 1)) us t vs → Onward (Linked r) (StopsAt (level r)) ts ((o, t) ∷ []) vs
one-link-at {r = r} {o = o} {vs = vs} {t = t} w f = subst (λ x. Onward (Linked r) (StopsAt (level r)) x ((o, t) ∷ []) vs) (sym w.front) (one-link w.operator w.rank f)

-- an operator at the front with no operand behind it
pub no-link-at : {r : Rank} {o : Op} {ts us : List Token} → Operates ts r o us → Nothing {A = Tree} (Operand r) (StopsAt (level r + 1)) us → Nothing {A = List (Op × Tree)} (Linked r) (StopsAt (level r)) ts
no-link-at {r = r} w n = subst (λ x. Nothing {A = List (Op × Tree)} (Linked r) (StopsAt (level r)) x) (sym w.front) (no-link w.operator w.rank n)

-- a comparison behind the sum with no other sum behind it
pub no-right-at : {ts zs us : List Token} {t : Tree} {r : Rel} → Found (Chain rank.Sum) (StopsAt 4) ts t zs → Compares zs r us → Nothing {A = Tree} (Chain rank.Sum) (StopsAt 4) us → Nothing {A = Tree} Comparison (StopsAt 3) ts
no-right-at {ts = ts} {t = t} f w n = no-right (subst (λ x. Found (Chain rank.Sum) (StopsAt 4) ts t x) w.front f) w.comparison n

-- a comparison behind the sum, and another sum
pub found-compared-at : {ts zs us vs : List Token} {t u : Tree} {r : Rel} → Found (Chain rank.Sum) (StopsAt 4) ts t zs → Compares zs r us → Found (Chain rank.Sum) (StopsAt 4) us u vs → Found Comparison (StopsAt 3) ts (compare r t u) vs
found-compared-at {ts = ts} {t = t} f w g = found-compared (subst (λ x. Found (Chain rank.Sum) (StopsAt 4) ts t x) w.front f) w.comparison g
