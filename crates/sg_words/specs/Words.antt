-- What the words of the command line say, read one after the other.
use Rattle.std.specs.Prelude.{ℕ, ◌==◌, Bool, true, false, List, [], ◌∷◌, ◌++◌, Option, None, Some, find, codes, option_map, option_and_then, if◌then◌else◌}
use Rattle.std.specs.List.{list_any, before_first, after_first}
use Rattle.std.specs.Str.{bytes_eq}

abbrev pub Text : Type 0
Text = List ℕ

-- what the words may say: an option, or FILE
pub data Name : Type 0 where
  budget : Name
  cache : Name
  stats : Name
  keep_going : Name
  drill : Name
  file : Name

-- an option as it is spelled behind its two hyphens
abbrev pub spelled : Name → Text
spelled budget = codes "budget"
spelled cache = codes "cache"
spelled stats = codes "stats"
spelled keep_going = codes "keep-going"
spelled drill = codes "drill"
spelled file = codes "FILE"

abbrev pub takes_value : Name → Bool
takes_value stats = false
takes_value keep_going = false
takes_value _ = true

abbrev pub is_name : Name → Name → Bool
is_name n m = bytes_eq (spelled m) (spelled n)

-- what was said, in its order, each with its value, which is empty at an option that takes none
abbrev pub Said : Type 0
Said = List (Name × Text)

abbrev pub is_said : Name → Said → Bool
is_said n said = list_any (λ p. is_name n p.0) said

abbrev pub text_of : Name → Said → Option Text
text_of n said = option_map (λ p. p.1) (find (λ p. is_name n p.0) said)

-- what the next word may be: anything, the value of an option, or FILE alone, behind `--`
pub data Place : Type 0 where
  anywhere : Place
  value_of : Name → Place
  file_alone : Place

-- a word by its hyphens: `--`; a name behind two, with what follows it; another word that begins with one; or none of these
pub data Kind : Type 0 where
  dashes : Kind
  option : Text → Kind
  other : Kind
  plain : Kind

abbrev pub behind_two : Text → Kind
behind_two [] = dashes
behind_two (c ∷ cs) = option (c ∷ cs)

abbrev pub behind_one : Text → Kind
behind_one [] = other
behind_one (c ∷ cs) = if c == 45 then behind_two cs else other

abbrev pub kind_of : Text → Kind
kind_of [] = plain
kind_of (c ∷ cs) = if c == 45 then behind_one cs else plain

-- what stands before the first `=`, and what stands after it
abbrev pub name_in : Text → Text
name_in text = before_first (λ c. c == 61) text

abbrev pub value_in : Text → Option Text
value_in text = if list_any (λ c. c == 61) text then Some (after_first (λ c. c == 61) text) else None

abbrev pub option_named : Text → Option Name
option_named name =
    if bytes_eq (spelled budget) name then Some budget
    else (if bytes_eq (spelled cache) name then Some cache
    else (if bytes_eq (spelled stats) name then Some stats
    else (if bytes_eq (spelled keep_going) name then Some keep_going
    else (if bytes_eq (spelled drill) name then Some drill else None))))

-- what is read of a word: what the next one may be, and all that was said; or none, where the word is refused
abbrev pub Read : Type 0
Read = Option (Place × Said)

-- each thing is said at most once
abbrev pub say : Name → Text → Place → Said → Read
say n text next said = if is_said n said then None else Some (next, said ++ (n, text) ∷ [])

-- an option, with the value that stands in its word if there is one
abbrev pub read_option : Option Name → Option Text → Said → Read
read_option None value said = None
read_option (Some n) (Some value) said = if takes_value n then say n value anywhere said else None
read_option (Some n) None said = if takes_value n then Some (value_of n, said) else say n [] anywhere said

abbrev pub read_any : Kind → Text → Said → Read
read_any dashes word said = Some (file_alone, said)
read_any (option text) word said = read_option (option_named (name_in text)) (value_in text) said
read_any other word said = None
read_any plain word said = say file word anywhere said

-- a value in a word of its own does not begin with a hyphen
abbrev pub read_value : Kind → Name → Text → Said → Read
read_value plain n word said = say n word anywhere said
read_value _ n word said = None

abbrev pub read_word : Place → Said → Text → Read
read_word anywhere said word = read_any (kind_of word) word said
read_word (value_of n) said word = read_value (kind_of word) n word said
read_word file_alone said word = say file word file_alone said

-- an option that waits for its value is refused at the end
abbrev pub at_end : Place → Said → Option Said
at_end (value_of n) said = None
at_end _ said = Some said

abbrev pub read_from : List Text → Place → Said → Option Said
read_from [] place said = at_end place said
read_from (word ∷ words) place said = option_and_then (λ next. read_from words next.0 next.1) (read_word place said word)

abbrev pub said_by : List Text → Option Said
said_by words = read_from words anywhere []
