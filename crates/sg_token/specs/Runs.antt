-- Runs of letters, digits and _.
use Rattle.std.specs.Prelude.{ℕ, ◌+◌, ◌*◌, ◌-◌, ◌^◌, ℤ, pos, ◌&&◌, List, drop, take_while, fold, Option, None, Some, option_map, nat_lt, if◌then◌else◌}
use Rattle.std.specs.List.{list_all, prefix_len}
use Rattle.std.specs.Char.{is_ascii_digit}
use Rattle.sg_cut.specs.Bytes.{is_word_byte}
use Rattle.sg_token.specs.ReservedWords.{reserved}
use Rattle.sg_token.specs.declared.token.Token.{Token}
use Rattle.sg_token.specs.declared.token.Token.TheVariants as token
use Rattle.sg_token.specs.declared.token.Token.TheVariants.{Number, Name}
use Rattle.sg_token.specs.declared.word.Word.{Word}

-- the longest run that the text begins with
abbrev pub run_of : List ℕ → List ℕ
run_of text = take_while is_word_byte text

-- the text after its longest run
abbrev pub after_run : List ℕ → List ℕ
after_run text = drop (prefix_len is_word_byte text) text

-- the number that digits write
abbrev pub value_of : List ℕ → ℕ
value_of digits = fold (λ value digit. value * 10 + (digit - 48)) 0 digits

-- the value of a run of digits alone, where it is at most 9223372036854775807
unfoldable pub number_of : List ℕ → Option ℤ
number_of run = if list_all is_ascii_digit run && nat_lt (value_of run) (2 ^ 63) then Some (pos (value_of run)) else None

-- the reserved word, or a name where there is none
abbrev pub word_or_name : List ℕ → Option Word → Token
word_or_name run None = Name run
word_or_name run (Some w) = token.Word w

-- a run that begins with a digit is a number, or no token where it has no such value; another is the reserved word that
-- is spelled so, or else a name
unfoldable pub token_of_run : ℕ → List ℕ → Option Token
token_of_run first run = if is_ascii_digit first then option_map Number (number_of run) else Some (word_or_name run (reserved run))

-- the token of the longest run that the text begins with, and the text after it
abbrev pub run_at : ℕ → List ℕ → Option (Token × List ℕ)
run_at first text = option_map (λ token. (token, after_run text)) (token_of_run first (run_of text))
