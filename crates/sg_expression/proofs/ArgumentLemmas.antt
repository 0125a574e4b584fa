-- Arguments, and names that something else follows.
use Rattle.std.proofs.Common.{◌≡◌, ℕ, ◌≤◌, List, ◌∷◌, ⊎_elim, refl, ap, ◌∙◌, subst, arith}
use Rattle.sg_token.specs.declared.token.Token.{Token}
use Rattle.sg_token.specs.declared.token.Token.TheVariants as token
use Rattle.sg_token.specs.declared.word.Word.TheVariants as word
use Rattle.sg_token.specs.declared.symbol.Symbol.TheVariants as symbol
use Rattle.sg_tree.specs.Tree.{Tree, variable, Argument, plain, arrow}
use Rattle.sg_expression.specs.declared.rank.Rank.{Rank}
use Rattle.sg_expression.specs.declared.rank.Rank.TheVariants as rank
use Rattle.sg_expression.specs.Grammar.{Chain, OneGiven, an_arrow, a_value}
use Rattle.sg_expression.specs.Reading.{Found, Nothing, Counts, EndsGiven, NamesNot, OperatesNot, ComparesNot}
use Rattle.sg_expression.specs.Binding.{rank_of, level, binding, StopsAt}
use Rattle.sg_expression.proofs.BindingLemmas.{binding-op, binding-relation}
use Rattle.sg_expression.proofs.ChainLemmas.{found-chain, end-links, found-conjunction, found-product, found-negative, found-unary, found-alone}
use Rattle.sg_expression.proofs.AtomLemmas.{found-variable, found-named, found-item, end-indices, ends-stop}

level-some : (r : Rank) → 1 ≤ level r
level-some rank.Or = omega arith
level-some rank.And = omega arith
level-some rank.Sum = omega arith
level-some rank.Product = omega arith

no-operator : {k : Token} {ts : List Token} (r : Rank) → binding k ≡ 0 → OperatesNot (k ∷ ts) r
no-operator {k = k} r free s o us e is rank =
    let same : k ≡ s = cc in
    let binds : binding k ≡ level (rank_of o) = ap binding same ∙ binding-op s o is in
    omega (arith, level-some (rank_of o))

no-relation : {k : Token} {ts : List Token} → binding k ≡ 0 → ComparesNot (k ∷ ts)
no-relation {k = k} free s r us e is =
    let same : k ≡ s = cc in
    let binds : binding k ≡ 3 = ap binding same ∙ binding-relation s r is in
    omega arith

no-bracket : {k : Token} {ts : List Token} → binding k ≡ 0 → (us : List Token) → k ∷ ts ≡ token.Symbol symbol.OpenBracket ∷ us → ⊥
no-bracket {k = k} free us e =
    let same : k ≡ token.Symbol symbol.OpenBracket = cc in
    let binds : binding k ≡ 6 = ap binding same in
    omega arith

no-parenthesis : {k : Token} {ts : List Token} → binding k ≡ 0 → (us : List Token) → k ∷ ts ≡ token.Symbol symbol.OpenParenthesis ∷ us → ⊥
no-parenthesis {k = k} free us e =
    let same : k ≡ token.Symbol symbol.OpenParenthesis = cc in
    let binds : binding k ≡ 7 = ap binding same in
    omega arith

-- a name alone is the expression before a token that can't go on with it
pub name-alone : {x : List ℕ} {k : Token} {ts : List Token} → binding k ≡ 0 → Found (Chain rank.Or) (StopsAt 1) (token.Name x ∷ k ∷ ts) (variable x) (k ∷ ts)
name-alone {x = x} {k = k} {ts = ts} free =
    let minus : Counts (token.Name x ∷ k ∷ ts) (token.Symbol symbol.Minus) 0 (token.Name x ∷ k ∷ ts) = record { front = refl; last = λ vs e. absurd (cc) } in
    let not : Counts (token.Name x ∷ k ∷ ts) (token.Word word.Not) 0 (token.Name x ∷ k ∷ ts) = record { front = refl; last = λ vs e. absurd (cc) } in
    let factor = found-unary minus (found-item (found-named (found-variable (no-parenthesis free))) (end-indices (no-bracket free))) in
    let term = found-product (found-chain factor (end-links (no-operator rank.Product free))) in
    let sum = found-chain term (end-links (no-operator rank.Sum free)) in
    let negated = found-negative not (found-alone sum (no-relation free)) in
    let conjunction = found-conjunction (found-chain negated (end-links (no-operator rank.And free))) in
    found-chain conjunction (end-links (no-operator rank.Or free))

-- an arrow ends no argument
pub not-an-end : (ts : List Token) → EndsGiven (token.Symbol symbol.Arrow ∷ ts) → ⊥
not-an-end ts e = ⊎_elim (λ c. cc) (λ c. cc) e

-- behind a name and an arrow stands the body
arrow-part : {x : List ℕ} {ts vs : List Token} {a : Argument} → OneGiven (token.Name x ∷ token.Symbol symbol.Arrow ∷ ts) a vs → EndsGiven vs → (t : Tree) × (a ≡ arrow x t) × Chain rank.Or ts t vs
arrow-part (an_arrow {t = t} d) ends = (t, refl, d)
arrow-part {x = x} {ts = ts} {vs = vs} (a_value {t = t} d) ends =
    let alone : Found (Chain rank.Or) (StopsAt 1) (token.Name x ∷ token.Symbol symbol.Arrow ∷ ts) (variable x) (token.Symbol symbol.Arrow ∷ ts) = name-alone refl in
    let e = alone.only t vs d (ends-stop vs ends) in
    absurd (not-an-end ts (subst EndsGiven e.1 ends))

-- behind a parameter and an arrow, a body
pub found-arrow : {x : List ℕ} {ts us : List Token} {t : Tree} → Found (Chain rank.Or) (StopsAt 1) ts t us → Found OneGiven EndsGiven (token.Name x ∷ token.Symbol symbol.Arrow ∷ ts) (arrow x t) us
found-arrow {x = x} f = record {
  is = an_arrow f.is;
  only = λ b vs d ends.
      let p = arrow-part d ends in
      let e = f.only p.0 vs p.2 (ends-stop vs ends) in
      (p.1 ∙ ap (arrow x) e.0, e.1);
}

-- behind a parameter and an arrow, no body
pub no-arrow : {x : List ℕ} {ts : List Token} → Nothing {A = Tree} (Chain rank.Or) (StopsAt 1) ts → Nothing {A = Argument} OneGiven EndsGiven (token.Name x ∷ token.Symbol symbol.Arrow ∷ ts)
no-arrow f = record { none = λ b vs d ends. let p = arrow-part d ends in f.none p.0 vs p.2 (ends-stop vs ends) }

value-part : {ts vs : List Token} {a : Argument} → NamesNot ts (token.Symbol symbol.Arrow) → OneGiven ts a vs → (t : Tree) × (a ≡ plain t) × Chain rank.Or ts t vs
value-part not (an_arrow {x = x} {ts = ts} d) = absurd (not x ts refl)
value-part not (a_value {t = t} d) = (t, refl, d)

-- where no arrow follows a name, an expression is the argument
pub found-value : {ts us : List Token} {t : Tree} → NamesNot ts (token.Symbol symbol.Arrow) → Found (Chain rank.Or) (StopsAt 1) ts t us → Found OneGiven EndsGiven ts (plain t) us
found-value not f = record {
  is = a_value f.is;
  only = λ b vs d ends.
      let p = value-part not d in
      let e = f.only p.0 vs p.2 (ends-stop vs ends) in
      (p.1 ∙ ap plain e.0, e.1);
}

-- where no arrow follows a name and no expression is there, there is no argument
pub no-value : {ts : List Token} → NamesNot ts (token.Symbol symbol.Arrow) → Nothing {A = Tree} (Chain rank.Or) (StopsAt 1) ts → Nothing {A = Argument} OneGiven EndsGiven ts
no-value not f = record { none = λ b vs d ends. let p = value-part not d in f.none p.0 vs p.2 (ends-stop vs ends) }
