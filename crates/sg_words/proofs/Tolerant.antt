-- A reading that takes a lone `-` for FILE or a value, as `clap` does, asks for the same: no value is `-`.
use Rattle.std.proofs.Common.{◌≡◌, ◌∙◌, ◌⊎◌, inl, inr, not, is_some, refl, sym, ap, subst, Bool, true, false, ◌&&◌, ◌==◌, cond, if◌then◌else◌, List, [], ◌∷◌, ◌++◌, Option, Some, None, find, option_map, option_and_then, true≢false}
use Rattle.std.specs.Option.{option_or}
use Rattle.std.proofs.lemmas.List.Folds.{find-append}
use Rattle.std.proofs.lemmas.Bool.Decides.{eqb_tells}
use Rattle.sg_words.proofs.Rows.{both_false}
use Rattle.sg_words.specs.Words as plainly
use Rattle.sg_words.specs.Settings.{Wanted, checked, fits, is_number, is_right, most_drill, names_file, settings_of, wanted_by}
use Rattle.sg_words.specs.Words.{Kind, Name, Place, Read, Said, Text, anywhere, at_end, behind_two, budget, cache, dashes, drill, file, file_alone, is_name, is_said, keep_going, name_in, option, option_named, other, plain, read_any, read_option, read_value, say, spelled, stats, takes_value, text_of, value_in, value_of}

abbrev pub behind_one : Text → Kind
behind_one [] = plain
behind_one (c ∷ cs) = if c == 45 then behind_two cs else other

abbrev pub kind_of : Text → Kind
kind_of [] = plain
kind_of (c ∷ cs) = if c == 45 then behind_one cs else plain

abbrev pub read_word : Place → Said → Text → Read
read_word anywhere said word = read_any (kind_of word) word said
read_word (value_of n) said word = read_value (kind_of word) n word said
read_word file_alone said word = say file word file_alone said

abbrev pub read_from : List Text → Place → Said → Option Said
read_from [] place said = at_end place said
read_from (word ∷ words) place said = option_and_then (λ next. read_from words next.0 next.1) (read_word place said word)

abbrev pub said_by : List Text → Option Said
said_by words = read_from words anywhere []

abbrev hyphen : Text
hyphen = 45 ∷ []

abbrev asked : Option Said → Option Wanted
asked = option_and_then checked

-- ---- what was said stays said

first_stays : (n : Name) (said : Said) (p : Name × Text) (text : Text) → text_of n said ≡ Some text → text_of n (said ++ p ∷ []) ≡ Some text
first_stays n said p text e = ap (option_map (λ p. p.1)) (find-append (λ p. is_name n p.0) said (p ∷ [])) ∙ go (find (λ p. is_name n p.0) said) e
  where
    go : (o : Option (Name × Text)) → option_map (λ p. p.1) o ≡ Some text → option_map (λ p. p.1) (option_or o (find (λ p. is_name n p.0) (p ∷ []))) ≡ Some text
    go None e = absurd (cc)
    go (Some q) e = e

and_false : (b : Bool) → (b && false) ≡ false
and_false true = refl
and_false false = refl

-- a name that has a lone hyphen asks for nothing
module _ (said : Said) where
  abbrev a : Bool
  a = fits (is_number 1 1000000) (text_of budget said)

  abbrev b : Bool
  b = fits (is_number 0 64) (text_of cache said)

  abbrev d : Bool
  d = fits (is_number 1 most_drill) (text_of drill said)

  abbrev f : Bool
  f = fits names_file (text_of file said)

  abbrev x : Bool
  x = not (is_some (text_of drill said) && is_some (text_of file said))

  wrong : (n : Name) → takes_value n ≡ true → text_of n said ≡ Some hyphen → is_right said ≡ false
  wrong budget v e = ap (λ t. fits (is_number 1 1000000) t && (b && (d && (f && x)))) e
  wrong cache v e = ap (λ t. a && (fits (is_number 0 64) t && (d && (f && x)))) e ∙ and_false a
  wrong stats v e = absurd (true≢false (sym v))
  wrong keep_going v e = absurd (true≢false (sym v))
  wrong drill v e = ap (λ t. a && (b && (fits (is_number 1 most_drill) t && (f && x)))) e ∙ ap (λ r. a && r) (and_false b) ∙ and_false a
  wrong file v e = ap (λ t. a && (b && (d && (fits names_file t && x)))) e ∙ ap (λ r. a && (b && r)) (and_false d) ∙ ap (λ r. a && r) (and_false b) ∙ and_false a

  none_asked : (n : Name) → takes_value n ≡ true → text_of n said ≡ Some hyphen → checked said ≡ None
  none_asked n v e = ap (λ r. cond r (Some (wanted_by said)) None) (wrong n v e)

-- ---- a reading keeps what it has

abbrev IsSound : Place → Type 0
IsSound (value_of n) = takes_value n ≡ true
IsSound _ = Unit {0}

abbrev Sound : Read → Type 0
Sound None = Unit {0}
Sound (Some next) = IsSound next.0

abbrev Hyphened : Name → Read → Type 0
Hyphened n None = Unit {0}
Hyphened n (Some next) = text_of n next.1 ≡ Some hyphen

-- what holds of each thing that is said, and of an option that waits, holds of a reading
read_holds : (P : Read → Type 0) (said : Said) → P None → ((m : Name) (text : Text) → P (say m text anywhere said)) → ((text : Text) → P (say file text file_alone said)) → P (Some (file_alone, said))
    → ((m : Name) → takes_value m ≡ true → P (Some (value_of m, said))) → (place : Place) (word : Text) → P (read_word place said word)
read_holds P said none says says_file dashes_seen waits place word = at place
  where
    by_value : (b : Bool) (m : Name) (text : Text) → P (cond b (say m text anywhere said) None)
    by_value true m text = says m text
    by_value false m text = none

    by_flag : (b : Bool) (m : Name) → takes_value m ≡ b → P (cond b (Some (value_of m, said)) (say m [] anywhere said))
    by_flag true m e = waits m e
    by_flag false m e = says m []

    optional : (o : Option Name) (value : Option Text) → P (read_option o value said)
    optional None value = none
    optional (Some m) (Some text) = by_value (takes_value m) m text
    optional (Some m) None = by_flag (takes_value m) m refl

    any : (k : Kind) → P (read_any k word said)
    any dashes = dashes_seen
    any (option text) = optional (option_named (name_in text)) (value_in text)
    any other = none
    any plain = says file word

    valued : (k : Kind) (n : Name) → P (read_value k n word said)
    valued dashes n = none
    valued (option text) n = none
    valued other n = none
    valued plain n = says n word

    at : (place : Place) → P (read_word place said word)
    at anywhere = any (kind_of word)
    at (value_of n) = valued (kind_of word) n
    at file_alone = says_file word

sound_say : (m : Name) (text : Text) (next : Place) (said : Said) → IsSound next → Sound (say m text next said)
sound_say m text next said s = go (is_said m said)
  where
    go : (b : Bool) → Sound (if b then None else Some (next, said ++ (m, text) ∷ []))
    go true = tt
    go false = s

sound_word : (place : Place) (said : Said) (word : Text) → Sound (read_word place said word)
sound_word place said word = read_holds Sound said tt (λ m text. sound_say m text anywhere said tt) (λ text. sound_say file text file_alone said tt) tt (λ m v. v) place word

hyphened_say : (n m : Name) (text : Text) (next : Place) (said : Said) → text_of n said ≡ Some hyphen → Hyphened n (say m text next said)
hyphened_say n m text next said e = go (is_said m said)
  where
    go : (b : Bool) → Hyphened n (if b then None else Some (next, said ++ (m, text) ∷ []))
    go true = tt
    go false = first_stays n said (m, text) hyphen e

hyphened_word : (n : Name) (place : Place) (said : Said) (word : Text) → text_of n said ≡ Some hyphen → Hyphened n (read_word place said word)
hyphened_word n place said word e =
    read_holds (Hyphened n) said tt (λ m text. hyphened_say n m text anywhere said e) (λ text. hyphened_say n file text file_alone said e) e (λ m v. e) place word

hyphen_stays : (n : Name) (words : List Text) (place : Place) (said : Said) → takes_value n ≡ true → text_of n said ≡ Some hyphen → asked (read_from words place said) ≡ None
hyphen_stays n [] anywhere said v e = none_asked said n v e
hyphen_stays n [] (value_of m) said v e = refl
hyphen_stays n [] file_alone said v e = none_asked said n v e
hyphen_stays n (word ∷ words) place said v e =
    elim (read_word place said word) as (λ r. Hyphened n r → asked (option_and_then (λ next. read_from words next.0 next.1) r) ≡ None) [
      | None ↦ λ h. refl
      | Some next ↦ λ h. hyphen_stays n words next.0 next.1 v h
    ] (hyphened_word n place said word e)

own_name : (n : Name) → is_name n n ≡ true
own_name budget = refl
own_name cache = refl
own_name stats = refl
own_name keep_going = refl
own_name drill = refl
own_name file = refl

last_text : (n : Name) (text : Text) (said : Said) → is_said n said ≡ false → text_of n (said ++ (n, text) ∷ []) ≡ Some text
last_text n text [] e = ap (λ b. option_map (λ (p : Name × Text). p.1) (cond b (Some (n, text)) None)) (own_name n)
last_text n text (p ∷ said) e =
    let parts = both_false (is_name n p.0) (is_said n said) e in
    ap (λ b. option_map (λ (p : Name × Text). p.1) (cond b (Some p) (find (λ p. is_name n p.0) (said ++ (n, text) ∷ [])))) parts.0 ∙ last_text n text said parts.1

hyphen_said : (n : Name) (words : List Text) (said : Said) → takes_value n ≡ true → None ≡ asked (option_and_then (λ (next : Place × Said). read_from words next.0 next.1) (say n hyphen anywhere said))
hyphen_said n words said v = go (is_said n said) refl
  where
    go : (b : Bool) → is_said n said ≡ b → None ≡ asked (option_and_then (λ (next : Place × Said). read_from words next.0 next.1) (if b then None else Some (anywhere, said ++ (n, hyphen) ∷ [])))
    go true e = refl
    go false e = sym (hyphen_stays n words anywhere (said ++ (n, hyphen) ∷ []) v (last_text n hyphen said e))

-- ---- the two readings

same_kind : (word : Text) → (plainly.kind_of word ≡ kind_of word) ⊎ (word ≡ hyphen)
same_kind [] = inl refl
same_kind (c ∷ []) = elim (eqb_tells c 45) [
  | inl h ↦ inr (ap (λ c. c ∷ []) h.1)
  | inr h ↦ inl (rw h.0 refl)
]
same_kind (c ∷ d ∷ ds) = inl refl

same_word : (place : Place) (said : Said) (word : Text) → plainly.kind_of word ≡ kind_of word → plainly.read_word place said word ≡ read_word place said word
same_word anywhere said word e = ap (λ k. read_any k word said) e
same_word (value_of n) said word e = ap (λ k. read_value k n word said) e
same_word file_alone said word e = refl

abbrev Same : List Text → Place → Said → Text → Type 0
Same words place said word =
    asked (option_and_then (λ (next : Place × Said). plainly.read_from words next.0 next.1) (plainly.read_word place said word)) ≡ asked (option_and_then (λ (next : Place × Said). read_from words next.0 next.1) (read_word place said word))

same_hyphen : (words : List Text) (place : Place) (said : Said) → IsSound place → ((place : Place) (said : Said) → IsSound place → asked (plainly.read_from words place said) ≡ asked (read_from words place said)) → Same words place said hyphen
same_hyphen words anywhere said s more = hyphen_said file words said refl
same_hyphen words (value_of n) said s more = hyphen_said n words said s
same_hyphen words file_alone said s more = go (is_said file said)
  where
    go : (b : Bool) → asked (option_and_then (λ (next : Place × Said). plainly.read_from words next.0 next.1) (if b then None else Some (file_alone, said ++ (file, hyphen) ∷ [])))
        ≡ asked (option_and_then (λ (next : Place × Said). read_from words next.0 next.1) (if b then None else Some (file_alone, said ++ (file, hyphen) ∷ [])))
    go true = refl
    go false = more file_alone (said ++ (file, hyphen) ∷ []) tt

same_from : (words : List Text) (place : Place) (said : Said) → IsSound place → asked (plainly.read_from words place said) ≡ asked (read_from words place said)
same_from [] place said s = refl
same_from (word ∷ words) place said s =
    let more : (place : Place) (said : Said) → IsSound place → asked (plainly.read_from words place said) ≡ asked (read_from words place said) = λ place said s. same_from words place said s in
    elim (same_kind word) [
      | inl e ↦ ap (λ r. asked (option_and_then (λ (next : Place × Said). plainly.read_from words next.0 next.1) r)) (same_word place said word e)
          ∙ (elim (read_word place said word) as (λ r. Sound r
          → asked (option_and_then (λ (next : Place × Said). plainly.read_from words next.0 next.1) r) ≡ asked (option_and_then (λ (next : Place × Said). read_from words next.0 next.1) r)) [
            | None ↦ λ _. refl
            | Some next ↦ λ s. more next.0 next.1 s
          ]) (sound_word place said word)
      | inr e ↦ subst (Same words place said) (sym e) (same_hyphen words place said s more)
    ]

-- what the words ask for, by the reading that goes along with `clap`
pub same_asked : (words : List Text) → settings_of words ≡ asked (said_by words)
same_asked words = same_from words anywhere [] tt
