-- An expression stands at the front of tokens, or none does: by the expressions at the fronts of fewer tokens.
use Rattle.std.proofs.Common.{◌≡◌, ℕ, zero, suc, ◌+◌, ◌<◌, ◌≤◌, List, [], ◌∷◌, ◌++◌, length, Option, None, Some, refl, sym, ap, subst, inl, inr, arith}
use Rattle.std.specs.Prelude.{◌⊎◌}
use Rattle.sg_token.specs.declared.token.Token.{Token}
use Rattle.sg_token.specs.declared.token.Token.TheVariants as token
use Rattle.sg_token.specs.declared.word.Word.TheVariants as word
use Rattle.sg_token.specs.declared.symbol.Symbol.TheVariants as symbol
use Rattle.sg_tree.specs.Tree.{Tree, number, quoted, variable, call, display, span, compare, no_trees, trees, Argument, plain, arrow, arguments}
use Rattle.sg_expression.specs.declared.rank.Rank.{Rank}
use Rattle.sg_expression.specs.declared.rank.Rank.TheVariants as rank
use Rattle.sg_expression.specs.Grammar.{joined, negated, signed, indexed, Chain, Linked, Operand, Comparison, Item, Indices, Atom, Entries, Given, MoreGiven, OneGiven}
use Rattle.sg_expression.specs.Literals.{literal_of}
use Rattle.sg_expression.specs.Reading.{Found, Nothing, Onward, NamesNot, Closed, Always, Named, Bracketed, EndsGiven}
use Rattle.sg_expression.specs.Binding.{level, binding, StopsAt}
use Rattle.sg_expression.proofs.Fronts.{Front, symbol-front, word-front, name-front, operator-front, comparison-front, signs-front}
use Rattle.sg_expression.proofs.OnwardLemmas.{onward-found, onward-nothing}
use Rattle.sg_expression.proofs.ExitLemmas.{one-link-at, no-link-at, no-right-at, found-compared-at}
use Rattle.sg_expression.proofs.ChainLemmas.{found-chain, no-chain, no-chain-links, end-links, found-conjunction, no-conjunction, found-product, no-product, found-negative, no-negative, found-unary, no-unary, found-alone, no-comparison}
use Rattle.sg_expression.proofs.AtomLemmas.{found-closed, no-closed, not-closed, found-item, no-item, no-item-indices, one-index, no-index, end-indices, found-literal, no-atom, no-atom-left, found-parenthesized, no-parenthesized, found-bracketed, no-bracketed, found-named, no-named, found-variable, found-call, no-call, found-none-given, found-given, no-given, no-given-more, one-given, no-one-given, found-last-given, no-more-given}
use Rattle.sg_expression.proofs.ArgumentLemmas.{found-arrow, no-arrow, found-value, no-value}
use Rattle.sg_expression.proofs.BracketLemmas.{found-empty, found-range, no-range, found-list, no-list, no-first-entry, one-entry, no-entry, found-last-entry, no-entries, found-listed, no-listed}

-- it stands at the front, and fewer tokens are left; or nothing does
abbrev pub Strictly : {A : Type 0} → (List Token → A → List Token → Type 0) → (List Token → Type 0) → List Token → Type 0
Strictly {A} R S ts = ((a : A) × (us : List Token) × Found R S ts a us × (length us < length ts)) ⊎ Nothing {A = A} R S ts

-- the same, where as many tokens may be left
abbrev pub Loosely : {A : Type 0} → (List Token → A → List Token → Type 0) → (List Token → Type 0) → List Token → Type 0
Loosely {A} R S ts = ((a : A) × (us : List Token) × Found R S ts a us × (length us ≤ length ts)) ⊎ Nothing {A = A} R S ts

-- what stands behind a token is shorter
pub behind : (k : Token) (ts us : List Token) → ts ≡ k ∷ us → length us < length ts
behind k ts us e = let m : length ts ≡ suc (length us) = ap length e in omega arith

-- what stands behind two tokens is shorter
pub behind-two : (j k : Token) (ts us : List Token) → ts ≡ j ∷ k ∷ us → length us < length ts
behind-two j k ts us e = let m : length ts ≡ suc (suc (length us)) = ap length e in omega arith

-- one item, and then the others
pub then-strictly : {A : Type 0} (R : List Token → List A → List Token → Type 0) (S : List Token → Type 0) (ts us : List Token) (x : A) → Onward R S ts (x ∷ []) us → length us < length ts →
    Strictly R S us → Strictly R S ts
then-strictly R S ts us x o l (inl g) = inl ((x ∷ []) ++ g.0, g.1, onward-found o g.2, omega (arith, l, g.3))
then-strictly R S ts us x o l (inr none) = inr (onward-nothing o none)

-- the same, where the others may be none
pub then-loosely : {A : Type 0} (R : List Token → List A → List Token → Type 0) (S : List Token → Type 0) (ts us : List Token) (x : A) → Onward R S ts (x ∷ []) us → length us < length ts →
    Loosely R S us → Loosely R S ts
then-loosely R S ts us x o l (inl g) = inl ((x ∷ []) ++ g.0, g.1, onward-found o g.2, omega (arith, l, g.3))
then-loosely R S ts us x o l (inr none) = inr (onward-nothing o none)

-- an expression and the token that closes it
pub closed-read : (k : Token) → binding k ≡ 0 → ((us : List Token) → Front k us) → (ts : List Token) → Strictly (Chain rank.Or) (StopsAt 1) ts → Strictly (Closed k) Always ts
closed-read k unbound front ts (inr none) = inr (no-closed unbound none)
closed-read k unbound front ts (inl f) = elim (front f.1) [
  | inr other ↦ inr (not-closed unbound f.2 other)
  | inl w ↦ inl (f.0, w.0, found-closed unbound (subst (λ us. Found (Chain rank.Or) (StopsAt 1) ts f.0 us) w.1 f.2), (let l = behind k f.1 w.0 w.1 in omega (arith, l, f.3)))
]

module _ (n : ℕ) (before : (us : List Token) → length us < n → Strictly (Chain rank.Or) (StopsAt 1) us) where
  -- ---- lists and ranges

  entries-comma : (us : List Token) → Strictly (Chain rank.Or) (StopsAt 1) us → ((vs : List Token) → length vs < length us → Strictly Entries Always vs) → Strictly Entries Always (token.Symbol symbol.Comma ∷ us)
  entries-comma us (inr none) more = inr (no-entry none)
  entries-comma us (inl f) more = then-strictly Entries Always (token.Symbol symbol.Comma ∷ us) f.1 f.0 (one-entry f.2) (omega (arith, f.3)) (more f.1 f.3)

  entries-read : (m : ℕ) (ts : List Token) → length ts < m → length ts ≤ n → Strictly Entries Always ts
  entries-read zero ts s l = absurd (omega arith)
  entries-read (suc m) ts s l = elim (symbol-front symbol.Comma ts) [
    | inl w ↦
        let c = behind (token.Symbol symbol.Comma) ts w.0 w.1 in
        subst (Strictly Entries Always) (sym w.1) (entries-comma w.0 (before w.0 (omega arith)) (λ vs q. entries-read m vs (omega arith) (omega arith)))
    | inr other ↦ elim (symbol-front symbol.CloseBracket ts) [
      | inl w ↦ subst (Strictly Entries Always) (sym w.1) (inl ([], w.0, found-last-entry, omega arith))
      | inr last ↦ inr (no-entries other last)
    ]
  ]

  range-read : (ts us : List Token) (low : Tree) → Found (Chain rank.Or) (StopsAt 1) ts low (token.Symbol symbol.Dots ∷ us) → length us < length ts → Strictly (Closed (token.Symbol symbol.CloseBracket)) Always us → Strictly Bracketed Always ts
  range-read ts us low f l (inl g) = inl (span low g.0, g.1, found-range f g.2, omega (arith, l, g.3))
  range-read ts us low f l (inr none) = inr (no-range f none)

  list-read : (ts us : List Token) (t : Tree) → Found (Chain rank.Or) (StopsAt 1) ts t us → length us < length ts → ((ws : List Token) → us ≡ token.Symbol symbol.Dots ∷ ws → ⊥) → Strictly Entries Always us → Strictly Bracketed Always ts
  list-read ts us t f l dots (inl g) = inl (display (trees (t ∷ g.0)), g.1, found-list f dots (found-listed g.2), omega (arith, l, g.3))
  list-read ts us t f l dots (inr none) = inr (no-list f dots (no-listed none))

  first-read : (ts : List Token) → length ts < n → ((ws : List Token) → ts ≡ token.Symbol symbol.CloseBracket ∷ ws → ⊥) → Strictly (Chain rank.Or) (StopsAt 1) ts → Strictly Bracketed Always ts
  first-read ts l other (inr none) = inr (no-first-entry other none)
  first-read ts l other (inl f) = elim (symbol-front symbol.Dots f.1) [
    | inl w ↦
        let c = behind (token.Symbol symbol.Dots) f.1 w.0 w.1 in
        let q = f.3 in
        range-read ts w.0 f.0 (subst (λ us. Found (Chain rank.Or) (StopsAt 1) ts f.0 us) w.1 f.2) (omega arith)
        (closed-read (token.Symbol symbol.CloseBracket) refl (symbol-front symbol.CloseBracket) w.0 (before w.0 (omega arith)))
    | inr dots ↦ let q = f.3 in list-read ts f.1 f.0 f.2 f.3 dots (entries-read (length f.1 + 1) f.1 (omega arith) (omega arith))
  ]

  bracketed-read : (ts : List Token) → length ts < n → Strictly Bracketed Always ts
  bracketed-read ts l = elim (symbol-front symbol.CloseBracket ts) [
    | inl w ↦ subst (Strictly Bracketed Always) (sym w.1) (inl (display no_trees, w.0, found-empty, omega arith))
    | inr other ↦ first-read ts l other (before ts l)
  ]

  -- ---- arguments

  arrow-read : (x : List ℕ) (us : List Token) → Strictly (Chain rank.Or) (StopsAt 1) us → Strictly OneGiven EndsGiven (token.Name x ∷ token.Symbol symbol.Arrow ∷ us)
  arrow-read x us (inl f) = inl (arrow x f.0, f.1, found-arrow f.2, omega (arith, f.3))
  arrow-read x us (inr none) = inr (no-arrow none)

  value-read : (ts : List Token) → NamesNot ts (token.Symbol symbol.Arrow) → Strictly (Chain rank.Or) (StopsAt 1) ts → Strictly OneGiven EndsGiven ts
  value-read ts other (inl f) = inl (plain f.0, f.1, found-value other f.2, f.3)
  value-read ts other (inr none) = inr (no-value other none)

  argument-read : (ts : List Token) → length ts < n → Strictly OneGiven EndsGiven ts
  argument-read ts l = elim (name-front (token.Symbol symbol.Arrow) (symbol-front symbol.Arrow) ts) [
    | inl w ↦
        let c = behind-two (token.Name w.0) (token.Symbol symbol.Arrow) ts w.1 w.2 in
        subst (Strictly OneGiven EndsGiven) (sym w.2) (arrow-read w.0 w.1 (before w.1 (omega arith)))
    | inr other ↦ value-read ts other (before ts l)
  ]

  given-comma : (us : List Token) → Strictly OneGiven EndsGiven us → ((vs : List Token) → length vs < length us → Strictly MoreGiven Always vs) → Strictly MoreGiven Always (token.Symbol symbol.Comma ∷ us)
  given-comma us (inr none) more = inr (no-one-given none)
  given-comma us (inl f) more = then-strictly MoreGiven Always (token.Symbol symbol.Comma ∷ us) f.1 f.0 (one-given f.2) (omega (arith, f.3)) (more f.1 f.3)

  more-given-read : (m : ℕ) (ts : List Token) → length ts < m → length ts ≤ n → Strictly MoreGiven Always ts
  more-given-read zero ts s l = absurd (omega arith)
  more-given-read (suc m) ts s l = elim (symbol-front symbol.Comma ts) [
    | inl w ↦
        let c = behind (token.Symbol symbol.Comma) ts w.0 w.1 in
        subst (Strictly MoreGiven Always) (sym w.1) (given-comma w.0 (argument-read w.0 (omega arith)) (λ vs q. more-given-read m vs (omega arith) (omega arith)))
    | inr other ↦ elim (symbol-front symbol.CloseParenthesis ts) [
      | inl w ↦ subst (Strictly MoreGiven Always) (sym w.1) (inl ([], w.0, found-last-given, omega arith))
      | inr last ↦ inr (no-more-given other last)
    ]
  ]

  some-given-read : (ts us : List Token) (a : Argument) → ((ws : List Token) → ts ≡ token.Symbol symbol.CloseParenthesis ∷ ws → ⊥) → Found OneGiven EndsGiven ts a us → length us < length ts → Strictly MoreGiven Always us → Strictly Given Always ts
  some-given-read ts us a other f l (inl g) = inl (a ∷ g.0, g.1, found-given other f g.2, omega (arith, l, g.3))
  some-given-read ts us a other f l (inr none) = inr (no-given-more other f none)

  given-read : (ts : List Token) → length ts < n → Strictly Given Always ts
  given-read ts l = elim (symbol-front symbol.CloseParenthesis ts) [
    | inl w ↦ subst (Strictly Given Always) (sym w.1) (inl ([], w.0, found-none-given, omega arith))
    | inr other ↦ elim (argument-read ts l) [
      | inr none ↦ inr (no-given other none)
      | inl f ↦ let q = f.3 in some-given-read ts f.1 f.0 other f.2 f.3 (more-given-read (length f.1 + 1) f.1 (omega arith) (omega arith))
    ]
  ]

  -- ---- atoms and items

  call-read : (x : List ℕ) (us : List Token) → Strictly Given Always us → Loosely (Named x) (StopsAt 7) (token.Symbol symbol.OpenParenthesis ∷ us)
  call-read x us (inl f) = inl (call x (arguments f.0), f.1, found-call f.2, omega (arith, f.3))
  call-read x us (inr none) = inr (no-call none)

  named-read : (x : List ℕ) (ts : List Token) → length ts < n → Loosely (Named x) (StopsAt 7) ts
  named-read x ts l = elim (symbol-front symbol.OpenParenthesis ts) [
    | inl w ↦
        let c = behind (token.Symbol symbol.OpenParenthesis) ts w.0 w.1 in
        subst (Loosely (Named x) (StopsAt 7)) (sym w.1) (call-read x w.0 (given-read w.0 (omega arith)))
    | inr other ↦ inl (variable x, ts, found-variable other, omega arith)
  ]

  name-read : (x : List ℕ) (ts : List Token) → Loosely (Named x) (StopsAt 7) ts → Strictly Atom (StopsAt 7) (token.Name x ∷ ts)
  name-read x ts (inl f) = inl (f.0, f.1, found-named f.2, omega (arith, f.3))
  name-read x ts (inr none) = inr (no-named none)

  parenthesis-read : (ts : List Token) → Strictly (Closed (token.Symbol symbol.CloseParenthesis)) Always ts → Strictly Atom (StopsAt 7) (token.Symbol symbol.OpenParenthesis ∷ ts)
  parenthesis-read ts (inl f) = inl (f.0, f.1, found-parenthesized f.2, omega (arith, f.3))
  parenthesis-read ts (inr none) = inr (no-parenthesized none)

  bracket-read : (ts : List Token) → Strictly Bracketed Always ts → Strictly Atom (StopsAt 7) (token.Symbol symbol.OpenBracket ∷ ts)
  bracket-read ts (inl f) = inl (f.0, f.1, found-bracketed f.2, omega (arith, f.3))
  bracket-read ts (inr none) = inr (no-bracketed none)

  word-read : (w : _) (ts : List Token) (o : Option Tree) → literal_of (token.Word w) ≡ o → Strictly Atom (StopsAt 7) (token.Word w ∷ ts)
  word-read w ts None is = inr (no-atom is (λ x e. cc) (λ e. cc) (λ e. cc))
  word-read w ts (Some t) is = inl (t, ts, found-literal is, omega arith)

  symbol-read : (s : _) (ts : List Token) → length ts < n → Strictly Atom (StopsAt 7) (token.Symbol s ∷ ts)
  symbol-read symbol.OpenParenthesis ts l = parenthesis-read ts (closed-read (token.Symbol symbol.CloseParenthesis) refl (symbol-front symbol.CloseParenthesis) ts (before ts l))
  symbol-read symbol.OpenBracket ts l = bracket-read ts (bracketed-read ts l)
  symbol-read s ts l = inr (no-atom refl (λ x e. cc) (λ e. cc) (λ e. cc))

  atom-read : (ts : List Token) → length ts ≤ n → Strictly Atom (StopsAt 7) ts
  atom-read [] l = inr no-atom-left
  atom-read (token.Number z ∷ ts) l = inl (number z, ts, found-literal refl, omega arith)
  atom-read (token.Name x ∷ ts) l = name-read x ts (named-read x ts (omega arith))
  atom-read (token.Word w ∷ ts) l = word-read w ts (literal_of (token.Word w)) refl
  atom-read (token.Text bytes ∷ ts) l = inl (quoted bytes, ts, found-literal refl, omega arith)
  atom-read (token.Symbol s ∷ ts) l = symbol-read s ts (omega arith)

  index-read : (us : List Token) → Strictly (Closed (token.Symbol symbol.CloseBracket)) Always us → ((vs : List Token) → length vs < length us → Loosely Indices (StopsAt 6) vs) → Loosely Indices (StopsAt 6) (token.Symbol symbol.OpenBracket ∷ us)
  index-read us (inr none) more = inr (no-index none)
  index-read us (inl f) more = then-loosely Indices (StopsAt 6) (token.Symbol symbol.OpenBracket ∷ us) f.1 f.0 (one-index f.2) (omega (arith, f.3)) (more f.1 f.3)

  indices-read : (m : ℕ) (ts : List Token) → length ts < m → length ts ≤ n → Loosely Indices (StopsAt 6) ts
  indices-read zero ts s l = absurd (omega arith)
  indices-read (suc m) ts s l = elim (symbol-front symbol.OpenBracket ts) [
    | inl w ↦
        let c = behind (token.Symbol symbol.OpenBracket) ts w.0 w.1 in
        subst (Loosely Indices (StopsAt 6)) (sym w.1)
        (index-read w.0 (closed-read (token.Symbol symbol.CloseBracket) refl (symbol-front symbol.CloseBracket) w.0 (before w.0 (omega arith))) (λ vs q. indices-read m vs (omega arith) (omega arith)))
    | inr other ↦ inl ([], ts, end-indices other, omega arith)
  ]

  indexed-read : (ts us : List Token) (t : Tree) → Found Atom (StopsAt 7) ts t us → length us < length ts → Loosely Indices (StopsAt 6) us → Strictly Item (StopsAt 6) ts
  indexed-read ts us t f l (inl g) = inl (indexed t g.0, g.1, found-item f g.2, omega (arith, l, g.3))
  indexed-read ts us t f l (inr none) = inr (no-item-indices f none)

  item-read : (ts : List Token) → length ts ≤ n → Strictly Item (StopsAt 6) ts
  item-read ts l = elim (atom-read ts l) [
    | inr none ↦ inr (no-item none)
    | inl f ↦ let q = f.3 in indexed-read ts f.1 f.0 f.2 f.3 (indices-read (length f.1 + 1) f.1 (omega arith) (omega arith))
  ]

  -- ---- chains

  unary-read : (ts : List Token) → length ts ≤ n → Strictly (Operand rank.Product) (StopsAt 6) ts
  unary-read ts l =
      let c = signs-front (token.Symbol symbol.Minus) (symbol-front symbol.Minus) ts in
      let less = c.3 in
      elim (item-read c.1 (omega arith)) [
        | inl f ↦ inl (signed c.0 f.0, f.1, found-unary c.2 f.2, omega (arith, less, f.3))
        | inr none ↦ inr (no-unary c.2 none)
      ]

  module _ (r : Rank) (operand : (us : List Token) → length us ≤ n → Strictly (Operand r) (StopsAt (level r + 1)) us) where
    links-read : (m : ℕ) (ts : List Token) → length ts < m → length ts ≤ n → Loosely (Linked r) (StopsAt (level r)) ts
    links-read zero ts s l = absurd (omega arith)
    links-read (suc m) ts s l = elim (operator-front ts r) [
      | inr other ↦ inl ([], ts, end-links other, omega arith)
      | inl w ↦
          let c = behind w.2.first ts w.1 w.2.front in
          elim (operand w.1 (omega arith)) [
            | inr none ↦ inr (no-link-at w.2 none)
            | inl f ↦
                let q = f.3 in
                then-loosely (Linked r) (StopsAt (level r)) ts f.1 (w.0, f.0) (one-link-at w.2 f.2) (omega arith) (links-read m f.1 (omega arith) (omega arith))
          ]
    ]

    linked-read : (ts us : List Token) (t : Tree) → Found (Operand r) (StopsAt (level r + 1)) ts t us → length us < length ts → Loosely (Linked r) (StopsAt (level r)) us → Strictly (Chain r) (StopsAt (level r)) ts
    linked-read ts us t f l (inl g) = inl (joined t g.0, g.1, found-chain f g.2, omega (arith, l, g.3))
    linked-read ts us t f l (inr none) = inr (no-chain-links f none)

    chain-read : (ts : List Token) → length ts ≤ n → Strictly (Chain r) (StopsAt (level r)) ts
    chain-read ts l = elim (operand ts l) [
      | inr none ↦ inr (no-chain none)
      | inl f ↦ let q = f.3 in linked-read ts f.1 f.0 f.2 f.3 (links-read (length f.1 + 1) f.1 (omega arith) (omega arith))
    ]

  product-read : (ts : List Token) → length ts ≤ n → Strictly (Operand rank.Sum) (StopsAt 5) ts
  product-read ts l = elim (chain-read rank.Product unary-read ts l) [
    | inl f ↦ inl (f.0, f.1, found-product f.2, f.3)
    | inr none ↦ inr (no-product none)
  ]

  sum-read : (ts : List Token) → length ts ≤ n → Strictly (Chain rank.Sum) (StopsAt 4) ts
  sum-read ts l = chain-read rank.Sum product-read ts l

  comparison-read : (ts : List Token) → length ts ≤ n → Strictly Comparison (StopsAt 3) ts
  comparison-read ts l = elim (sum-read ts l) [
    | inr none ↦ inr (no-comparison none)
    | inl f ↦
        let q = f.3 in
        elim (comparison-front f.1) [
          | inr other ↦ inl (f.0, f.1, found-alone f.2 other, f.3)
          | inl w ↦
              let c = behind w.2.first f.1 w.1 w.2.front in
              elim (sum-read w.1 (omega arith)) [
                | inl g ↦ inl (compare w.0 f.0 g.0, g.1, found-compared-at f.2 w.2 g.2, omega (arith, q, c, g.3))
                | inr none ↦ inr (no-right-at f.2 w.2 none)
              ]
        ]
  ]

  negative-read : (ts : List Token) → length ts ≤ n → Strictly (Operand rank.And) (StopsAt 3) ts
  negative-read ts l =
      let c = signs-front (token.Word word.Not) (word-front word.Not) ts in
      let less = c.3 in
      elim (comparison-read c.1 (omega arith)) [
        | inl f ↦ inl (negated c.0 f.0, f.1, found-negative c.2 f.2, omega (arith, less, f.3))
        | inr none ↦ inr (no-negative c.2 none)
      ]

  conjunction-read : (ts : List Token) → length ts ≤ n → Strictly (Operand rank.Or) (StopsAt 2) ts
  conjunction-read ts l = elim (chain-read rank.And negative-read ts l) [
    | inl f ↦ inl (f.0, f.1, found-conjunction f.2, f.3)
    | inr none ↦ inr (no-conjunction none)
  ]

  expression-here : (ts : List Token) → length ts ≤ n → Strictly (Chain rank.Or) (StopsAt 1) ts
  expression-here ts l = chain-read rank.Or conjunction-read ts l

expression-below : (k : ℕ) (ts : List Token) → length ts < k → Strictly (Chain rank.Or) (StopsAt 1) ts
expression-below zero ts l = absurd (omega arith)
expression-below (suc k) ts l = expression-here k (λ us s. expression-below k us s) ts (omega arith)

-- an expression stands at the front of any tokens, or none does
pub expression-read : (ts : List Token) → Strictly (Chain rank.Or) (StopsAt 1) ts
expression-read ts = expression-below (length ts + 1) ts (omega arith)
