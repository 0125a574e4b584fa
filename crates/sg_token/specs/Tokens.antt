-- The tokens of a text.
use Rattle.std.specs.Prelude.{◌≡◌, ℕ, List, [], ◌∷◌, Some, drop, length}
use Rattle.std.specs.List.{prefix_len}
use Rattle.sg_cut.specs.Bytes.{is_inline}
use Rattle.sg_token.specs.FirstByte.{beginning_at}
use Rattle.sg_token.specs.Runs.{run_of, after_run, token_of_run}
use Rattle.sg_token.specs.Strings.{string_at}
use Rattle.sg_token.specs.Symbols.{spelling_of_symbol, symbol_before}
use Rattle.sg_token.specs.declared.beginning.Beginning.TheVariants as begins
use Rattle.sg_token.specs.declared.symbol.Symbol.{Symbol}
use Rattle.sg_token.specs.declared.token.Token.{Token}
use Rattle.sg_token.specs.declared.token.Token.TheVariants as token

-- the text from its first line feed on
abbrev pub after_line : List ℕ → List ℕ
after_line text = drop (prefix_len is_inline text) text

-- the text falls into these tokens, blanks and comments, each run and each symbol as long as it can be
pub data FallsInto : List ℕ → List Token → Type 0 where
  at_end : FallsInto [] []
  blank : {b : ℕ} {text : List ℕ} {tokens : List Token} → beginning_at b ≡ begins.Blank → FallsInto text tokens → FallsInto (b ∷ text) tokens
  comment : {b : ℕ} {text : List ℕ} {tokens : List Token} → beginning_at b ≡ begins.Comment → FallsInto (after_line text) tokens → FallsInto (b ∷ text) tokens
  run : {b : ℕ} {text : List ℕ} {token : Token} {tokens : List Token} → beginning_at b ≡ begins.Run → token_of_run b (run_of (b ∷ text)) ≡ Some token → FallsInto (after_run (b ∷ text)) tokens → FallsInto (b ∷ text) (token ∷ tokens)
  string : {b : ℕ} {text bytes rest : List ℕ} {tokens : List Token} → beginning_at b ≡ begins.Quote → string_at text ≡ Some (bytes, rest) → FallsInto rest tokens → FallsInto (b ∷ text) (token.Text bytes ∷ tokens)
  symbol : {b : ℕ} {text : List ℕ} {s : Symbol} {tokens : List Token} → beginning_at b ≡ begins.Symbol → symbol_before (b ∷ text) ≡ Some s → FallsInto (drop (length (spelling_of_symbol s)) (b ∷ text)) tokens → FallsInto (b ∷ text) (token.Symbol s ∷ tokens)
