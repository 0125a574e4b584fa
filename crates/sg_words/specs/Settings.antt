-- What accepted words ask for.
use Rattle.std.specs.Prelude.{ℕ, ◌&&◌, Bool, true, not, List, length, Option, None, Some, is_some, codes, nat_le, option_map, option_and_then, if◌then◌else◌}
use Rattle.std.specs.List.{list_all}
use Rattle.std.specs.Option.{option_map_or}
use Rattle.std.specs.Char.{is_ascii_digit}
use Rattle.std.specs.Str.{bytes_eq}
use Rattle.std.specs.Str.Parse.{digits_value}
use Rattle.sg_words.specs.Words.{Text, Said, budget, cache, drill, file, is_said, keep_going, said_by, stats, text_of}

-- one to ten digits, with a value inside the limits
abbrev pub is_number : ℕ → ℕ → Text → Bool
is_number least most text = nat_le 1 (length text) && (nat_le (length text) 10 && (list_all is_ascii_digit text
    && (nat_le least (digits_value 10 text) && nat_le (digits_value 10 text) most)))

-- not empty, and neither `-` nor `--`
abbrev pub names_file : Text → Bool
names_file text = nat_le 1 (length text) && (not (bytes_eq text (codes "-")) && not (bytes_eq text (codes "--")))

-- a value is right where it is there
abbrev pub fits : (Text → Bool) → Option Text → Bool
fits test text = option_map_or test text true

-- the most statements of a drill
abbrev pub most_drill : ℕ
most_drill = 100000

-- each value is right, and there is no drill with a FILE
abbrev pub is_right : Said → Bool
is_right said = fits (is_number 1 1000000) (text_of budget said)
    && (fits (is_number 0 64) (text_of cache said)
    && (fits (is_number 1 most_drill) (text_of drill said)
    && (fits names_file (text_of file said)
    && not (is_some (text_of drill said) && is_some (text_of file said)))))

-- what accepted words ask for
pub record Wanted : Type 0 where
  pub budget : ℕ
  pub cache : ℕ
  pub stats : Bool
  pub keep_going : Bool
  pub drill : Option ℕ
  pub file : Option Text

abbrev pub number_or : ℕ → Option Text → ℕ
number_or absent text = option_map_or (digits_value 10) text absent

abbrev pub wanted_by : Said → Wanted
wanted_by said = record {
  budget = number_or 100000 (text_of budget said);
  cache = number_or 32 (text_of cache said);
  stats = is_said stats said;
  keep_going = is_said keep_going said;
  drill = option_map (digits_value 10) (text_of drill said);
  file = text_of file said;
}

-- the same, or none where a rule is broken
abbrev pub checked : Said → Option Wanted
checked said = if is_right said then Some (wanted_by said) else None

-- what the words ask for, or none where they break a rule
abbrev pub settings_of : List Text → Option Wanted
settings_of words = option_and_then checked (said_by words)
