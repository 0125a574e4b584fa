-- How bytes fall into lexemes: comments, strings, words and single bytes.
use Rattle.std.specs.Prelude.{◌≡◌, ℕ, ◌<◌, Bool, false, not, ◌||◌, ◌==◌, List, [], ◌∷◌, ◌++◌, length, IsTrue, ⊤}
use Rattle.std.specs.List.{concat, list_all}
use Rattle.sg_cut.specs.Bytes.{is_inline, is_word_byte}

-- a byte that means itself inside a string: no `"`, no backslash and no line feed
abbrev pub is_plain : ℕ → Bool
is_plain b = not (b == 34 || b == 92 || b == 10)

-- a byte that is a lexeme by itself: it stands in no word, and begins no string and no comment
abbrev pub is_single : ℕ → Bool
is_single b = not (is_word_byte b || b == 34 || b == 35)

-- a run of bytes that pass goes no further: nothing follows, or a byte that fails
abbrev pub EndsRun : (ℕ → Bool) → List ℕ → Type 0
EndsRun test [] = ⊤
EndsRun test (b ∷ rest) = test b ≡ false

-- a comment goes from `#` up to the next line feed or the end
pub record IsComment (lexeme rest : List ℕ) : Type 0 where
  pub body : List ℕ
  pub spelled : lexeme ≡ 35 ∷ body
  pub one_line : IsTrue (list_all is_inline body)
  pub longest : EndsRun is_inline rest

-- a word is a longest run of letters, digits and `_`
pub record IsWord (lexeme rest : List ℕ) : Type 0 where
  pub some : 0 < length lexeme
  pub of_word_bytes : IsTrue (list_all is_word_byte lexeme)
  pub longest : EndsRun is_word_byte rest

-- what may stand inside a string: plain bytes, and backslashes with the byte after each, which is no line feed
pub data IsInside : List ℕ → Type 0 where
  none : IsInside []
  plain : {b : ℕ} {bytes : List ℕ} → IsTrue (is_plain b) → IsInside bytes → IsInside (b ∷ bytes)
  escaped : {b : ℕ} {bytes : List ℕ} → IsTrue (is_inline b) → IsInside bytes → IsInside (92 ∷ b ∷ bytes)

-- how a string ends: with a `"`, or before a line feed or the end, where a last backslash may escape nothing
pub data Closes (rest : List ℕ) : List ℕ → Type 0 where
  quote : Closes rest (34 ∷ [])
  line : EndsRun is_inline rest → Closes rest []
  backslash : EndsRun is_inline rest → Closes rest (92 ∷ [])

-- a string behind its opening `"`
pub record IsQuoted (tail rest : List ℕ) : Type 0 where
  pub body : List ℕ
  pub closing : List ℕ
  pub spelled : tail ≡ body ++ closing
  pub inside : IsInside body
  pub closes : Closes rest closing

-- a string goes from `"` to the next `"` that no backslash escapes, or to the end of its line
pub record IsString (lexeme rest : List ℕ) : Type 0 where
  pub tail : List ℕ
  pub spelled : lexeme ≡ 34 ∷ tail
  pub quoted : IsQuoted tail rest

-- any other byte is a lexeme by itself: a blank, a sign, a byte above 127
pub record IsSingle (lexeme : List ℕ) : Type 0 where
  pub byte : ℕ
  pub spelled : lexeme ≡ byte ∷ []
  pub single : IsTrue (is_single byte)

-- `lexeme` is the first lexeme of the bytes `lexeme ++ rest`
pub data IsLexeme (lexeme rest : List ℕ) : Type 0 where
  comment : IsComment lexeme rest → IsLexeme lexeme rest
  word : IsWord lexeme rest → IsLexeme lexeme rest
  string : IsString lexeme rest → IsLexeme lexeme rest
  single : IsSingle lexeme → IsLexeme lexeme rest

-- these are the first lexemes of the bytes that they spell, with `rest` behind them
abbrev pub AreLexemes : List (List ℕ) → List ℕ → Type 0
AreLexemes [] rest = ⊤
AreLexemes (lexeme ∷ lexemes) rest = IsLexeme lexeme (concat lexemes ++ rest) × AreLexemes lexemes rest
