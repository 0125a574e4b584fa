-- What a token says between operands.
use Rattle.std.specs.Prelude.{ℕ, ◌<◌, List, [], ◌∷◌, Option, None, Some, ⊤}
use Rattle.sg_tree.specs.declared.expr.Op.{Op}
use Rattle.sg_tree.specs.declared.expr.Op.TheVariants as op
use Rattle.sg_tree.specs.declared.expr.Rel.{Rel}
use Rattle.sg_tree.specs.declared.expr.Rel.TheVariants as rel
use Rattle.sg_token.specs.declared.token.Token.{Token}
use Rattle.sg_token.specs.declared.token.Token.TheVariants as token
use Rattle.sg_token.specs.declared.word.Word.{Word}
use Rattle.sg_token.specs.declared.word.Word.TheVariants as word
use Rattle.sg_token.specs.declared.symbol.Symbol.{Symbol}
use Rattle.sg_token.specs.declared.symbol.Symbol.TheVariants as symbol
use Rattle.sg_expression.specs.declared.rank.Rank.{Rank}
use Rattle.sg_expression.specs.declared.rank.Rank.TheVariants as rank

-- the operator that a word is
abbrev pub op_of_word : Word → Option Op
op_of_word word.Or = Some op.Or
op_of_word word.And = Some op.And
op_of_word word.Mod = Some op.Mod
op_of_word _ = None

-- the operator that a symbol is
abbrev pub op_of_symbol : Symbol → Option Op
op_of_symbol symbol.Plus = Some op.Plus
op_of_symbol symbol.Minus = Some op.Less
op_of_symbol symbol.Times = Some op.Times
op_of_symbol _ = None

-- the operator of a chain that a token is
abbrev pub op_of : Token → Option Op
op_of (token.Number z) = None
op_of (token.Name x) = None
op_of (token.Word w) = op_of_word w
op_of (token.Text bytes) = None
op_of (token.Symbol s) = op_of_symbol s

-- the comparison that a word is
abbrev pub relation_of_word : Word → Option Rel
relation_of_word word.In = Some rel.Member
relation_of_word _ = None

-- the comparison that a symbol is
abbrev pub relation_of_symbol : Symbol → Option Rel
relation_of_symbol symbol.Equal = Some rel.Eq
relation_of_symbol symbol.Unequal = Some rel.Ne
relation_of_symbol symbol.Below = Some rel.Lt
relation_of_symbol symbol.AtMost = Some rel.Le
relation_of_symbol symbol.Above = Some rel.Gt
relation_of_symbol symbol.AtLeast = Some rel.Ge
relation_of_symbol _ = None

-- the comparison that a token is
abbrev pub relation_of : Token → Option Rel
relation_of (token.Number z) = None
relation_of (token.Name x) = None
relation_of (token.Word w) = relation_of_word w
relation_of (token.Text bytes) = None
relation_of (token.Symbol s) = relation_of_symbol s

-- the line of the grammar that an operator stands in
abbrev pub rank_of : Op → Rank
rank_of op.Or = rank.Or
rank_of op.And = rank.And
rank_of op.Plus = rank.Sum
rank_of op.Less = rank.Sum
rank_of op.Times = rank.Product
rank_of op.Mod = rank.Product

-- how tightly a line of the grammar binds: comparisons stand between `and` and `+`
abbrev pub level : Rank → ℕ
level rank.Or = 1
level rank.And = 2
level rank.Sum = 4
level rank.Product = 5

-- the level of an operator, or else this number
abbrev pub level_of_op : Option Op → ℕ → ℕ
level_of_op None other = other
level_of_op (Some o) other = level (rank_of o)

-- the level of a comparison, or else this number
abbrev pub level_of_relation : Option Rel → ℕ → ℕ
level_of_relation None other = other
level_of_relation (Some r) other = 3

-- the level of a bracket that opens
abbrev pub level_of_bracket : Token → ℕ
level_of_bracket (token.Number z) = 0
level_of_bracket (token.Name x) = 0
level_of_bracket (token.Word w) = 0
level_of_bracket (token.Text bytes) = 0
level_of_bracket (token.Symbol symbol.OpenBracket) = 6
level_of_bracket (token.Symbol symbol.OpenParenthesis) = 7
level_of_bracket (token.Symbol _) = 0

-- how tightly a token binds what stands before it; 0 where it can't go on with an expression
abbrev pub binding : Token → ℕ
binding t = level_of_op (op_of t) (level_of_relation (relation_of t) (level_of_bracket t))

-- the tokens begin with none that binds so tightly, or more
abbrev pub StopsAt : ℕ → List Token → Type 0
StopsAt n [] = ⊤
StopsAt n (t ∷ ts) = binding t < n
