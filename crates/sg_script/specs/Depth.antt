-- How deeply brackets and blocks nest.
use Rattle.std.specs.Prelude.{ℕ, ◌+◌, ◌<◌, Bool, true, false, List, take, count_by}
use Rattle.sg_token.specs.declared.token.Token.{Token}
use Rattle.sg_token.specs.declared.token.Token.TheVariants as token
use Rattle.sg_token.specs.declared.word.Word.{Word}
use Rattle.sg_token.specs.declared.word.Word.TheVariants as word
use Rattle.sg_token.specs.declared.symbol.Symbol.{Symbol}
use Rattle.sg_token.specs.declared.symbol.Symbol.TheVariants as symbol
use Rattle.sg_script.specs.declared.limits.TheConstants.{NESTING_LIMIT}

-- whether a word begins a block
abbrev pub word_deepens : Word → Bool
word_deepens word.If = true
word_deepens word.For = true
word_deepens _ = false

-- whether a symbol opens a bracket
abbrev pub symbol_deepens : Symbol → Bool
symbol_deepens symbol.OpenParenthesis = true
symbol_deepens symbol.OpenBracket = true
symbol_deepens _ = false

-- whether a token opens a bracket or begins a block
abbrev pub deepens : Token → Bool
deepens (token.Number z) = false
deepens (token.Name x) = false
deepens (token.Word w) = word_deepens w
deepens (token.Text bytes) = false
deepens (token.Symbol s) = symbol_deepens s

-- whether a word ends a block
abbrev pub word_rises : Word → Bool
word_rises word.Fi = true
word_rises word.Od = true
word_rises _ = false

-- whether a symbol closes a bracket
abbrev pub symbol_rises : Symbol → Bool
symbol_rises symbol.CloseParenthesis = true
symbol_rises symbol.CloseBracket = true
symbol_rises _ = false

-- whether a token closes a bracket or ends a block
abbrev pub rises : Token → Bool
rises (token.Number z) = false
rises (token.Name x) = false
rises (token.Word w) = word_rises w
rises (token.Text bytes) = false
rises (token.Symbol s) = symbol_rises s

-- the first tokens open more brackets and blocks, beyond those that they close, than may be open
abbrev pub IsDeepAt : List Token → ℕ → Type 0
IsDeepAt tokens n = count_by rises (take n tokens) + NESTING_LIMIT < count_by deepens (take n tokens)

-- some front of the tokens does
abbrev pub IsDeep : List Token → Type 0
IsDeep tokens = (n : ℕ) × IsDeepAt tokens n
