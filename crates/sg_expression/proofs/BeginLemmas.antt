-- What expressions and their parts begin with.
use Rattle.std.proofs.Common.{ℕ, zero, suc, ◌≤◌, List, [], ◌∷◌, arith}
use Rattle.sg_token.specs.declared.token.Token.{Token}
use Rattle.sg_token.specs.declared.token.Token.TheVariants as token
use Rattle.sg_token.specs.declared.word.Word.{Word}
use Rattle.sg_token.specs.declared.word.Word.TheVariants as word
use Rattle.sg_token.specs.declared.symbol.Symbol.{Symbol}
use Rattle.sg_token.specs.declared.symbol.Symbol.TheVariants as symbol
use Rattle.sg_tree.specs.Tree.{Tree}
use Rattle.sg_expression.specs.declared.rank.Rank.TheVariants as rank
use Rattle.sg_expression.specs.Grammar.{times, Chain, chained, Operand, conjunction, negative, product, unary, Comparison, alone, compared, Item, an_item, Atom, a_number, a_string, a_true, a_false, a_fail, a_name, a_call, parenthesized, an_empty_list, a_list, a_range}

-- how tightly what a word opens binds, by the numbers of `opens`
abbrev pub opens_word : Word → ℕ
opens_word word.True = 1
opens_word word.False = 1
opens_word word.Fail = 1
opens_word word.Not = 3
opens_word _ = 0

-- the same of a symbol
abbrev pub opens_symbol : Symbol → ℕ
opens_symbol symbol.OpenParenthesis = 1
opens_symbol symbol.OpenBracket = 1
opens_symbol symbol.Minus = 2
opens_symbol _ = 0

-- 1 for what an atom begins with, 2 for a minus sign, 3 for `not`, and 0 for the others
abbrev pub opens : Token → ℕ
opens (token.Number z) = 1
opens (token.Name x) = 1
opens (token.Word w) = opens_word w
opens (token.Text bytes) = 1
opens (token.Symbol s) = opens_symbol s

-- the tokens begin with one that opens what binds so tightly
abbrev pub Starts : ℕ → List Token → Type 0
Starts n [] = ⊥
Starts n (t ∷ ts) = (1 ≤ opens t) × (opens t ≤ n)

starts-more : (ts : List Token) (m n : ℕ) → m ≤ n → Starts m ts → Starts n ts
starts-more [] m n le s = s
starts-more (t ∷ ts) m n le s = (s.0, omega (arith, s.1))

-- what an atom begins with
pub starts-atom : {ts us : List Token} {t : Tree} → Atom ts t us → Starts 1 ts
starts-atom a_number = (omega arith, omega arith)
starts-atom a_string = (omega arith, omega arith)
starts-atom a_true = (omega arith, omega arith)
starts-atom a_false = (omega arith, omega arith)
starts-atom a_fail = (omega arith, omega arith)
starts-atom a_name = (omega arith, omega arith)
starts-atom (a_call g) = (omega arith, omega arith)
starts-atom (parenthesized d) = (omega arith, omega arith)
starts-atom an_empty_list = (omega arith, omega arith)
starts-atom (a_list d e) = (omega arith, omega arith)
starts-atom (a_range d e) = (omega arith, omega arith)

-- an item begins as its atom does
pub starts-item : {ts us : List Token} {t : Tree} → Item ts t us → Starts 1 ts
starts-item (an_item a is) = starts-atom a

starts-minus : (n : ℕ) (ts : List Token) → Starts 1 ts → Starts 2 (times n (token.Symbol symbol.Minus) ts)
starts-minus zero ts s = starts-more ts 1 2 (omega arith) s
starts-minus (suc n) ts s = (omega arith, omega arith)

starts-not : (n : ℕ) (ts : List Token) → Starts 2 ts → Starts 3 (times n (token.Word word.Not) ts)
starts-not zero ts s = starts-more ts 2 3 (omega arith) s
starts-not (suc n) ts s = (omega arith, omega arith)

starts-factor : {ts us : List Token} {t : Tree} → Operand rank.Product ts t us → Starts 2 ts
starts-factor (unary n {ts = ts} d) = starts-minus n ts (starts-item d)

starts-product : {ts us : List Token} {t : Tree} → Chain rank.Product ts t us → Starts 2 ts
starts-product (chained o l) = starts-factor o

starts-term : {ts us : List Token} {t : Tree} → Operand rank.Sum ts t us → Starts 2 ts
starts-term (product d) = starts-product d

starts-sum : {ts us : List Token} {t : Tree} → Chain rank.Sum ts t us → Starts 2 ts
starts-sum (chained o l) = starts-term o

-- a comparison begins as its first sum does
pub starts-comparison : {ts us : List Token} {t : Tree} → Comparison ts t us → Starts 2 ts
starts-comparison (alone d) = starts-sum d
starts-comparison (compared d r e) = starts-sum d

starts-negative : {ts us : List Token} {t : Tree} → Operand rank.And ts t us → Starts 3 ts
starts-negative (negative n {ts = ts} d) = starts-not n ts (starts-comparison d)

starts-conjunction : {ts us : List Token} {t : Tree} → Chain rank.And ts t us → Starts 3 ts
starts-conjunction (chained o l) = starts-negative o

starts-alternative : {ts us : List Token} {t : Tree} → Operand rank.Or ts t us → Starts 3 ts
starts-alternative (conjunction d) = starts-conjunction d

-- what an expression begins with
pub starts-expression : {ts us : List Token} {t : Tree} → Chain rank.Or ts t us → Starts 3 ts
starts-expression (chained o l) = starts-alternative o
