-- Chains, their operands, and comparisons: what is found at the front of tokens.
use Rattle.std.proofs.Common.{◌≡◌, ℕ, ◌+◌, List, [], ◌∷◌, Some, refl, sym, ap, ◌∙◌, subst, arith}
use Rattle.sg_token.specs.declared.token.Token.{Token}
use Rattle.sg_token.specs.declared.token.Token.TheVariants as token
use Rattle.sg_token.specs.declared.word.Word.TheVariants as word
use Rattle.sg_token.specs.declared.symbol.Symbol.TheVariants as symbol
use Rattle.sg_tree.specs.Tree.{Tree, compare}
use Rattle.sg_tree.specs.declared.expr.Op.{Op}
use Rattle.sg_tree.specs.declared.expr.Rel.{Rel}
use Rattle.sg_expression.specs.declared.rank.Rank.{Rank}
use Rattle.sg_expression.specs.declared.rank.Rank.TheVariants as rank
use Rattle.sg_expression.specs.Grammar.{times, joined, negated, signed, Chain, chained, Linked, no_link, one_link, Operand, conjunction, negative, product, unary, Comparison, alone, compared, Item}
use Rattle.sg_expression.specs.Reading.{Found, Nothing, Onward, OperatesNot, ComparesNot, Counts}
use Rattle.sg_expression.specs.Binding.{op_of, relation_of, rank_of, level, binding, StopsAt}
use Rattle.sg_expression.proofs.BindingLemmas.{times-one, stops-more, binding-op, binding-relation}
use Rattle.sg_expression.proofs.BeginLemmas.{starts-comparison, starts-item, Starts}

-- a chain is its first operand and the links behind it
pub chain-parts : {r : Rank} {ts vs : List Token} {b : Tree} → Chain r ts b vs → (t : Tree) × (us : List Token) × (ls : List (Op × Tree)) × (b ≡ joined t ls) × Operand r ts t us × Linked r us ls vs
chain-parts (chained {us = us} {t = t} {ls = ls} o l) = (t, us, ls, refl, o, l)

-- an operand is followed by what ends the chain, or by an operator
pub operand-stops : {r : Rank} {us vs : List Token} {ls : List (Op × Tree)} → Linked r us ls vs → StopsAt (level r) vs → StopsAt (level r + 1) us
operand-stops {r = r} {us = us} no_link stop = stops-more (level r + 1) us (omega arith) stop
operand-stops {r = r} (one_link {s = s} {o = o} is rank d l) stop =
    let binds : binding s ≡ level r = binding-op s o is ∙ ap level rank in
    omega arith

-- an operand and its links
pub found-chain : {r : Rank} {ts us vs : List Token} {t : Tree} {ls : List (Op × Tree)} → Found (Operand r) (StopsAt (level r + 1)) ts t us → Found (Linked r) (StopsAt (level r)) us ls vs → Found (Chain r) (StopsAt (level r)) ts (joined t ls) vs
found-chain {r = r} {t = t} f g = record {
  is = chained f.is g.is;
  only = λ b ws d stop.
      let p = chain-parts d in
      let e = f.only p.0 p.1 p.4 (operand-stops p.5 stop) in
      let h = g.only p.2 ws (subst (λ x. Linked r x p.2 ws) e.1 p.5) stop in
      (p.3 ∙ (ap (λ x. joined x p.2) e.0 ∙ ap (joined t) h.0), h.1);
}

-- no operand, no chain
pub no-chain : {r : Rank} {ts : List Token} → Nothing (Operand r) (StopsAt (level r + 1)) ts → Nothing (Chain r) (StopsAt (level r)) ts
no-chain f = record { none = λ b ws d stop. let p = chain-parts d in f.none p.0 p.1 p.4 (operand-stops p.5 stop) }

-- nor is there a chain where its links break off
pub no-chain-links : {r : Rank} {ts us : List Token} {t : Tree} → Found (Operand r) (StopsAt (level r + 1)) ts t us → Nothing (Linked r) (StopsAt (level r)) us → Nothing (Chain r) (StopsAt (level r)) ts
no-chain-links {r = r} f g = record {
  none = λ b ws d stop.
      let p = chain-parts d in
      let e = f.only p.0 p.1 p.4 (operand-stops p.5 stop) in
      g.none p.2 ws (subst (λ x. Linked r x p.2 ws) e.1 p.5) stop;
}

-- at an operator of the rank the chain goes on with it
pub link-parts : {r : Rank} {s : Token} {o : Op} {ts vs : List Token} {ls : List (Op × Tree)} → op_of s ≡ Some o → rank_of o ≡ r → Linked r (s ∷ ts) ls vs → StopsAt (level r) vs → (t : Tree) × (us : List Token) × (more : List (Op × Tree)) × (ls ≡ (o, t) ∷ more) × Operand r ts t us × Linked r us more vs
link-parts {s = s} {o = o} is rank no_link stop = let binds = binding-op s o is ∙ ap level rank in absurd (omega arith)
link-parts {o = o} is rank (one_link {o = p} {us = us} {t = t} {ls = more} is' rank' d l) stop =
    let same : p ≡ o = cc (is, is') in
    (t, us, more, ap (λ x. (x, t) ∷ more) same, d, l)

-- one more operator and its operand
pub one-link : {r : Rank} {s : Token} {o : Op} {ts us : List Token} {t : Tree} → op_of s ≡ Some o → rank_of o ≡ r → Found (Operand r) (StopsAt (level r + 1)) ts t us → Onward (Linked r) (StopsAt (level r)) (s ∷ ts) ((o, t) ∷ []) us
one-link {r = r} {o = o} {t = t} is rank f = record {
  joins = λ others vs d. one_link is rank f.is d;
  only = λ all vs d stop.
      let p = link-parts is rank d stop in
      let e = f.only p.0 p.1 p.4 (operand-stops p.5 stop) in
      (p.2, p.3 ∙ ap (λ x. (o, x) ∷ p.2) e.0, subst (λ x. Linked r x p.2 vs) e.1 p.5);
}

-- an operator with no operand behind it
pub no-link : {r : Rank} {s : Token} {o : Op} {ts : List Token} → op_of s ≡ Some o → rank_of o ≡ r → Nothing (Operand r) (StopsAt (level r + 1)) ts → Nothing (Linked r) (StopsAt (level r)) (s ∷ ts)
no-link is rank f = record { none = λ all vs d stop. let p = link-parts is rank d stop in f.none p.0 p.1 p.4 (operand-stops p.5 stop) }

links-over : {r : Rank} {ts vs : List Token} {ls : List (Op × Tree)} → OperatesNot ts r → Linked r ts ls vs → (ls ≡ []) × (vs ≡ ts)
links-over not no_link = (refl, refl)
links-over not (one_link {s = s} {o = o} {ts = ts} is rank d l) = absurd (not s o ts refl is rank)

-- where no operator of the rank follows, the chain is over
pub end-links : {r : Rank} {ts : List Token} → OperatesNot ts r → Found (Linked r) (StopsAt (level r)) ts [] ts
end-links not = record { is = no_link; only = λ b vs d stop. links-over not d }

conjunction-part : {ts us : List Token} {t : Tree} → Operand rank.Or ts t us → Chain rank.And ts t us
conjunction-part (conjunction d) = d

-- an operand of `or` is a chain of `and`
pub found-conjunction : {ts us : List Token} {t : Tree} → Found (Chain rank.And) (StopsAt 2) ts t us → Found (Operand rank.Or) (StopsAt 2) ts t us
found-conjunction f = record { is = conjunction f.is; only = λ b vs d stop. f.only b vs (conjunction-part d) stop }

-- where there is no such chain, there is no operand
pub no-conjunction : {ts : List Token} → Nothing (Chain rank.And) (StopsAt 2) ts → Nothing (Operand rank.Or) (StopsAt 2) ts
no-conjunction f = record { none = λ b vs d stop. f.none b vs (conjunction-part d) stop }

product-part : {ts us : List Token} {t : Tree} → Operand rank.Sum ts t us → Chain rank.Product ts t us
product-part (product d) = d

-- an operand of `+` is a chain of `*`
pub found-product : {ts us : List Token} {t : Tree} → Found (Chain rank.Product) (StopsAt 5) ts t us → Found (Operand rank.Sum) (StopsAt 5) ts t us
found-product f = record { is = product f.is; only = λ b vs d stop. f.only b vs (product-part d) stop }

-- where there is no such chain, there is no operand
pub no-product : {ts : List Token} → Nothing (Chain rank.Product) (StopsAt 5) ts → Nothing (Operand rank.Sum) (StopsAt 5) ts
no-product f = record { none = λ b vs d stop. f.none b vs (product-part d) stop }

negative-parts : {ts vs : List Token} {b : Tree} → Operand rank.And ts b vs → (n : ℕ) × (us : List Token) × (t : Tree) × (ts ≡ times n (token.Word word.Not) us) × (b ≡ negated n t) × Comparison us t vs
negative-parts (negative n {ts = us} {t = t} d) = (n, us, t, refl, refl, d)

-- a comparison does not begin with `not`
pub not-not : {us vs : List Token} {t : Tree} → Comparison us t vs → (ws : List Token) → us ≡ token.Word word.Not ∷ ws → ⊥
not-not d ws e = let s = subst (Starts 2) e (starts-comparison d) in omega (arith, s.1)

-- a comparison with so many `not` before it
pub found-negative : {ts us vs : List Token} {n : ℕ} {t : Tree} → Counts ts (token.Word word.Not) n us → Found Comparison (StopsAt 3) us t vs → Found (Operand rank.And) (StopsAt 3) ts (negated n t) vs
found-negative {vs = vs} {n = n} {t = t} c f = record {
  is = subst (λ x. Operand rank.And x (negated n t) vs) (sym c.front) (negative n f.is);
  only = λ b ws d stop.
      let p = negative-parts d in
      let e = times-one p.0 n (token.Word word.Not) p.1 _ (sym p.3 ∙ c.front) (not-not p.5) c.last in
      let h = f.only p.2 ws (subst (λ x. Comparison x p.2 ws) e.1 p.5) stop in
      (p.4 ∙ (ap (λ x. negated x p.2) e.0 ∙ ap (negated n) h.0), h.1);
}

-- so many `not` with no comparison behind them
pub no-negative : {ts us : List Token} {n : ℕ} → Counts ts (token.Word word.Not) n us → Nothing Comparison (StopsAt 3) us → Nothing (Operand rank.And) (StopsAt 3) ts
no-negative {n = n} c f = record {
  none = λ b ws d stop.
      let p = negative-parts d in
      let e = times-one p.0 n (token.Word word.Not) p.1 _ (sym p.3 ∙ c.front) (not-not p.5) c.last in
      f.none p.2 ws (subst (λ x. Comparison x p.2 ws) e.1 p.5) stop;
}

unary-parts : {ts vs : List Token} {b : Tree} → Operand rank.Product ts b vs → (n : ℕ) × (us : List Token) × (t : Tree) × (ts ≡ times n (token.Symbol symbol.Minus) us) × (b ≡ signed n t) × Item us t vs
unary-parts (unary n {ts = us} {t = t} d) = (n, us, t, refl, refl, d)

-- an item does not begin with a minus sign
pub not-minus : {us vs : List Token} {t : Tree} → Item us t vs → (ws : List Token) → us ≡ token.Symbol symbol.Minus ∷ ws → ⊥
not-minus d ws e = let s = subst (Starts 1) e (starts-item d) in omega (arith, s.1)

-- an item with so many minus signs before it
pub found-unary : {ts us vs : List Token} {n : ℕ} {t : Tree} → Counts ts (token.Symbol symbol.Minus) n us → Found Item (StopsAt 6) us t vs → Found (Operand rank.Product) (StopsAt 6) ts (signed n t) vs
found-unary {vs = vs} {n = n} {t = t} c f = record {
  is = subst (λ x. Operand rank.Product x (signed n t) vs) (sym c.front) (unary n f.is);
  only = λ b ws d stop.
      let p = unary-parts d in
      let e = times-one p.0 n (token.Symbol symbol.Minus) p.1 _ (sym p.3 ∙ c.front) (not-minus p.5) c.last in
      let h = f.only p.2 ws (subst (λ x. Item x p.2 ws) e.1 p.5) stop in
      (p.4 ∙ (ap (λ x. signed x p.2) e.0 ∙ ap (signed n) h.0), h.1);
}

-- so many minus signs with no item behind them
pub no-unary : {ts us : List Token} {n : ℕ} → Counts ts (token.Symbol symbol.Minus) n us → Nothing Item (StopsAt 6) us → Nothing (Operand rank.Product) (StopsAt 6) ts
no-unary {n = n} c f = record {
  none = λ b ws d stop.
      let p = unary-parts d in
      let e = times-one p.0 n (token.Symbol symbol.Minus) p.1 _ (sym p.3 ∙ c.front) (not-minus p.5) c.last in
      f.none p.2 ws (subst (λ x. Item x p.2 ws) e.1 p.5) stop;
}

only-alone : {ts us : List Token} {t : Tree} → Found (Chain rank.Sum) (StopsAt 4) ts t us → ComparesNot us → {b : Tree} {vs : List Token} → Comparison ts b vs → StopsAt 3 vs → (b ≡ t) × (vs ≡ us)
only-alone f not {vs = vs} (alone d) stop = f.only _ vs d (stops-more 4 vs (omega arith) stop)
only-alone f not (compared {s = s} {r = r} {us = us} d is e) stop =
    let binds = binding-relation s r is in
    let same = f.only _ (s ∷ us) d (omega arith) in
    absurd (not s r us (sym same.1) is)

-- a sum with no comparison behind it
pub found-alone : {ts us : List Token} {t : Tree} → Found (Chain rank.Sum) (StopsAt 4) ts t us → ComparesNot us → Found Comparison (StopsAt 3) ts t us
found-alone f not = record { is = alone f.is; only = λ b vs d stop. only-alone f not d stop }

-- no sum, no comparison
pub no-comparison : {ts : List Token} → Nothing (Chain rank.Sum) (StopsAt 4) ts → Nothing Comparison (StopsAt 3) ts
no-comparison {ts = ts} f = record { none = λ b vs d stop. none-compared f d stop }
  where
    none-compared : {ts : List Token} {b : Tree} {vs : List Token} → Nothing (Chain rank.Sum) (StopsAt 4) ts → Comparison ts b vs → StopsAt 3 vs → ⊥
    none-compared {vs = vs} f (alone d) stop = f.none _ vs d (stops-more 4 vs (omega arith) stop)
    none-compared f (compared {s = s} {r = r} {us = us} d is e) stop = let binds = binding-relation s r is in f.none _ (s ∷ us) d (omega arith)

-- what stands behind the comparison after a sum
right-part : {ts us : List Token} {t : Tree} {s : Token} {r : Rel} → Found (Chain rank.Sum) (StopsAt 4) ts t (s ∷ us) → relation_of s ≡ Some r → {b : Tree} {vs : List Token} → Comparison ts b vs → StopsAt 3 vs → (u : Tree) × (b ≡ compare r t u) × Chain rank.Sum us u vs
right-part {s = s} {r = r} f is {vs = vs} (alone d) stop =
    let binds = binding-relation s r is in
    let same = f.only _ vs d (stops-more 4 vs (omega arith) stop) in
    let stopped = subst (StopsAt 3) same.1 stop in
    absurd (omega arith)
right-part {us = us} {t = t} {s = s} {r = r} f is {vs = vs} (compared {s = z} {r = q} {us = ws} {t = a} {u = u} d was e) stop =
    let binds = binding-relation z q was in
    let same = f.only _ (z ∷ ws) d (omega arith) in
    let same_token : z ≡ s = cc (same.1) in
    let left : ws ≡ us = cc (same.1) in
    let relation : q ≡ r = cc (was, is, ap relation_of same_token) in
    (u, ap (λ x. compare x a u) relation ∙ ap (λ x. compare r x u) same.0, subst (λ x. Chain rank.Sum x u vs) left e)

-- two sums with a comparison between them
pub found-compared : {ts us vs : List Token} {t u : Tree} {s : Token} {r : Rel} → Found (Chain rank.Sum) (StopsAt 4) ts t (s ∷ us) → relation_of s ≡ Some r → Found (Chain rank.Sum) (StopsAt 4) us u vs → Found Comparison (StopsAt 3) ts (compare r t u) vs
found-compared {t = t} {r = r} f is g = record {
  is = compared f.is is g.is;
  only = λ b ws d stop.
      let p = right-part f is d stop in
      let e = g.only p.0 ws p.2 (stops-more 4 ws (omega arith) stop) in
      (p.1 ∙ ap (compare r t) e.0, e.1);
}

-- a comparison with no sum behind it
pub no-right : {ts us : List Token} {t : Tree} {s : Token} {r : Rel} → Found (Chain rank.Sum) (StopsAt 4) ts t (s ∷ us) → relation_of s ≡ Some r → Nothing (Chain rank.Sum) (StopsAt 4) us → Nothing Comparison (StopsAt 3) ts
no-right f is g = record { none = λ b ws d stop. let p = right-part f is d stop in g.none p.0 ws p.2 (stops-more 4 ws (omega arith) stop) }
