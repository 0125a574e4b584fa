-- The symbols.
use Rattle.std.specs.Prelude.{ℕ, List, [], ◌∷◌, Option, find, codes, ◌==◌}
use Rattle.std.specs.List.{starts_with}
use Rattle.sg_token.specs.declared.symbol.Symbol.{Symbol}
use Rattle.sg_token.specs.declared.symbol.Symbol.TheVariants as symbol

-- the bytes that spell the symbol
abbrev pub spelling_of_symbol : Symbol → List ℕ
spelling_of_symbol symbol.Assign = codes ":="
spelling_of_symbol symbol.Dots = codes ".."
spelling_of_symbol symbol.Arrow = codes "->"
spelling_of_symbol symbol.Unequal = codes "<>"
spelling_of_symbol symbol.AtMost = codes "<="
spelling_of_symbol symbol.AtLeast = codes ">="
spelling_of_symbol symbol.Semicolon = codes ";"
spelling_of_symbol symbol.Comma = codes ","
spelling_of_symbol symbol.OpenParenthesis = codes "("
spelling_of_symbol symbol.CloseParenthesis = codes ")"
spelling_of_symbol symbol.OpenBracket = codes "["
spelling_of_symbol symbol.CloseBracket = codes "]"
spelling_of_symbol symbol.Plus = codes "+"
spelling_of_symbol symbol.Minus = codes "-"
spelling_of_symbol symbol.Times = codes "*"
spelling_of_symbol symbol.Equal = codes "="
spelling_of_symbol symbol.Below = codes "<"
spelling_of_symbol symbol.Above = codes ">"

-- all symbols, the longer ones first
abbrev pub symbols : List Symbol
symbols = symbol.Assign ∷ symbol.Dots ∷ symbol.Arrow ∷ symbol.Unequal ∷ symbol.AtMost ∷ symbol.AtLeast ∷ symbol.Semicolon ∷ symbol.Comma ∷ symbol.OpenParenthesis ∷ symbol.CloseParenthesis ∷ symbol.OpenBracket ∷ symbol.CloseBracket ∷ symbol.Plus ∷ symbol.Minus ∷ symbol.Times ∷ symbol.Equal ∷ symbol.Below ∷ symbol.Above ∷ []

-- the longest symbol that the text begins with
unfoldable pub symbol_before : List ℕ → Option Symbol
symbol_before text = find (λ s. starts_with ◌==◌ text (spelling_of_symbol s)) symbols
