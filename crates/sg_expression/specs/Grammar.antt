-- The grammar of expressions: each relation says what stands at the front of a list of tokens, and what follows it.
use Rattle.std.specs.Prelude.{◌≡◌, ℕ, zero, suc, List, [], ◌∷◌, true, false, Some}
use Rattle.sg_tree.specs.declared.expr.Op.{Op}
use Rattle.sg_tree.specs.declared.expr.Rel.{Rel}
use Rattle.sg_tree.specs.Tree.{Tree, number, quoted, truth, failing, variable, call, display, span, item, minus, negation, chain, compare, no_trees, Argument, plain, arrow, trees, arguments, links}
use Rattle.sg_token.specs.declared.token.Token.{Token}
use Rattle.sg_token.specs.declared.token.Token.TheVariants as token
use Rattle.sg_token.specs.declared.word.Word.TheVariants as word
use Rattle.sg_token.specs.declared.symbol.Symbol.TheVariants as symbol
use Rattle.sg_expression.specs.declared.rank.Rank.{Rank}
use Rattle.sg_expression.specs.declared.rank.Rank.TheVariants as rank
use Rattle.sg_expression.specs.Binding.{op_of, relation_of, rank_of}

-- a token so many times, and then these
abbrev pub times : ℕ → Token → List Token → List Token
times zero t ts = ts
times (suc n) t ts = t ∷ times n t ts

-- an operand alone is no chain
abbrev pub joined : Tree → List (Op × Tree) → Tree
joined t [] = t
joined t (l ∷ ls) = chain t (links (l ∷ ls))

-- no `not` leaves no node
abbrev pub negated : ℕ → Tree → Tree
negated zero t = t
negated (suc n) t = negation (suc n) t

-- no `-` leaves no node
abbrev pub signed : ℕ → Tree → Tree
signed zero t = t
signed (suc n) t = minus (suc n) t

-- nor do no indices
abbrev pub indexed : Tree → List Tree → Tree
indexed t [] = t
indexed t (i ∷ is) = item t (trees (i ∷ is))

-- expr, conj, sum and prod are the chains of their ranks; conj, neg, prod and unary are the operands of these
mutual
  pub data Chain : Rank → List Token → Tree → List Token → Type 0 where
    chained : {r : Rank} {ts us vs : List Token} {t : Tree} {ls : List (Op × Tree)} → Operand r ts t us → Linked r us ls vs → Chain r ts (joined t ls) vs

  -- { operator operand }
  pub data Linked : Rank → List Token → List (Op × Tree) → List Token → Type 0 where
    no_link : {r : Rank} {ts : List Token} → Linked r ts [] ts
    one_link : {r : Rank} {s : Token} {o : Op} {ts us vs : List Token} {t : Tree} {ls : List (Op × Tree)} → op_of s ≡ Some o → rank_of o ≡ r → Operand r ts t us → Linked r us ls vs → Linked r (s ∷ ts) ((o, t) ∷ ls) vs

  pub data Operand : Rank → List Token → Tree → List Token → Type 0 where
    conjunction : {ts us : List Token} {t : Tree} → Chain rank.And ts t us → Operand rank.Or ts t us
    -- { "not" } comp
    negative : (n : ℕ) → {ts us : List Token} {t : Tree} → Comparison ts t us → Operand rank.And (times n (token.Word word.Not) ts) (negated n t) us
    product : {ts us : List Token} {t : Tree} → Chain rank.Product ts t us → Operand rank.Sum ts t us
    -- { "-" } item
    unary : (n : ℕ) → {ts us : List Token} {t : Tree} → Item ts t us → Operand rank.Product (times n (token.Symbol symbol.Minus) ts) (signed n t) us

  -- sum [ comparison sum ]
  pub data Comparison : List Token → Tree → List Token → Type 0 where
    alone : {ts us : List Token} {t : Tree} → Chain rank.Sum ts t us → Comparison ts t us
    compared : {s : Token} {r : Rel} {ts us vs : List Token} {t u : Tree} → Chain rank.Sum ts t (s ∷ us) → relation_of s ≡ Some r → Chain rank.Sum us u vs → Comparison ts (compare r t u) vs

  -- atom { "[" expr "]" }
  pub data Item : List Token → Tree → List Token → Type 0 where
    an_item : {ts us vs : List Token} {t : Tree} {is : List Tree} → Atom ts t us → Indices us is vs → Item ts (indexed t is) vs

  pub data Indices : List Token → List Tree → List Token → Type 0 where
    no_index : {ts : List Token} → Indices ts [] ts
    one_index : {ts us vs : List Token} {t : Tree} {is : List Tree} → Chain rank.Or ts t (token.Symbol symbol.CloseBracket ∷ us) → Indices us is vs → Indices (token.Symbol symbol.OpenBracket ∷ ts) (t ∷ is) vs

  pub data Atom : List Token → Tree → List Token → Type 0 where
    a_number : {z : _} {ts : List Token} → Atom (token.Number z ∷ ts) (number z) ts
    a_string : {bytes : List ℕ} {ts : List Token} → Atom (token.Text bytes ∷ ts) (quoted bytes) ts
    a_true : {ts : List Token} → Atom (token.Word word.True ∷ ts) (truth true) ts
    a_false : {ts : List Token} → Atom (token.Word word.False ∷ ts) (truth false) ts
    a_fail : {ts : List Token} → Atom (token.Word word.Fail ∷ ts) failing ts
    a_name : {x : List ℕ} {ts : List Token} → Atom (token.Name x ∷ ts) (variable x) ts
    a_call : {x : List ℕ} {ts us : List Token} {given : List Argument} → Given ts given us → Atom (token.Name x ∷ token.Symbol symbol.OpenParenthesis ∷ ts) (call x (arguments given)) us
    parenthesized : {ts us : List Token} {t : Tree} → Chain rank.Or ts t (token.Symbol symbol.CloseParenthesis ∷ us) → Atom (token.Symbol symbol.OpenParenthesis ∷ ts) t us
    an_empty_list : {ts : List Token} → Atom (token.Symbol symbol.OpenBracket ∷ token.Symbol symbol.CloseBracket ∷ ts) (display no_trees) ts
    a_list : {ts us vs : List Token} {t : Tree} {es : List Tree} → Chain rank.Or ts t us → Entries us es vs → Atom (token.Symbol symbol.OpenBracket ∷ ts) (display (trees (t ∷ es))) vs
    a_range : {ts us vs : List Token} {low high : Tree} → Chain rank.Or ts low (token.Symbol symbol.Dots ∷ us) → Chain rank.Or us high (token.Symbol symbol.CloseBracket ∷ vs) → Atom (token.Symbol symbol.OpenBracket ∷ ts) (span low high) vs

  -- { "," expr } "]"
  pub data Entries : List Token → List Tree → List Token → Type 0 where
    last_entry : {ts : List Token} → Entries (token.Symbol symbol.CloseBracket ∷ ts) [] ts
    one_entry : {ts us vs : List Token} {t : Tree} {es : List Tree} → Chain rank.Or ts t us → Entries us es vs → Entries (token.Symbol symbol.Comma ∷ ts) (t ∷ es) vs

  -- [ arg { "," arg } ] ")"
  pub data Given : List Token → List Argument → List Token → Type 0 where
    none_given : {ts : List Token} → Given (token.Symbol symbol.CloseParenthesis ∷ ts) [] ts
    some_given : {ts us vs : List Token} {a : Argument} {others : List Argument} → OneGiven ts a us → MoreGiven us others vs → Given ts (a ∷ others) vs

  -- { "," arg } ")"
  pub data MoreGiven : List Token → List Argument → List Token → Type 0 where
    last_given : {ts : List Token} → MoreGiven (token.Symbol symbol.CloseParenthesis ∷ ts) [] ts
    one_given : {ts us vs : List Token} {a : Argument} {others : List Argument} → OneGiven ts a us → MoreGiven us others vs → MoreGiven (token.Symbol symbol.Comma ∷ ts) (a ∷ others) vs

  pub data OneGiven : List Token → Argument → List Token → Type 0 where
    an_arrow : {x : List ℕ} {ts us : List Token} {t : Tree} → Chain rank.Or ts t us → OneGiven (token.Name x ∷ token.Symbol symbol.Arrow ∷ ts) (arrow x t) us
    a_value : {ts us : List Token} {t : Tree} → Chain rank.Or ts t us → OneGiven ts (plain t) us
