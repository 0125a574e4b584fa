-- What the getters of `clap` read of the rows of what was said.
use Rattle.std.proofs.Common.{◌≡◌, ◌∙◌, refl, sym, ap, ◌||◌, Bool, true, false, cond, if◌then◌else◌, List, [], ◌∷◌, ◌++◌, fold, find, codes, slice_get, bytes_eq, Option, Some, None, option_map, option_and_then, true≢false}
use Rattle.std.specs.Option.{option_or}
use Rattle.std.proofs.lemmas.Slice.Eq.{bytes_eq-Decides}
use Rattle.std.proofs.lemmas.List.Folds.{find-append}
use Rattle.clap.specs.Walk.{Row, default_rows, first_of, has_row, more_values, one_of, row_text, with_default}
use Rattle.clap.specs.declared.parser.matches.ValueSource.TheVariants.{DefaultValue}
use Rattle.clap.specs.declared.builder.value_parser.Reading.TheVariants as reading
use Rattle.clap.specs.declared.parser.matches.ArgMatches.{ArgMatches}
use Rattle.clap.specs.Words.{first_value, found_of, rows_of}
use Rattle.clap.proofs.WalkLemmas.{first_value-rows, one_text-rows}
use Rattle.sg_words.specs.Words.{Name, Said, Text, budget, cache, drill, file, is_name, is_said, keep_going, spelled, stats, text_of}
use Rattle.sg_words.specs.Reading.{Shows, flag_text}
use Rattle.sg_words.proofs.Rules.{rule_for, rules}
use Rattle.sg_words.proofs.Rows.{at_fresh_row, is_flag, row_for, rows_for, value_for}

abbrev found : Text → List Row → Option Row
found id rows = find (λ r. bytes_eq r.id id) rows

-- ---- defaults

same_rows : (b : Bool) (rows : List Row) → (if b then rows else rows) ≡ rows
same_rows true rows = refl
same_rows false rows = refl

abbrev defaulted : List Row → Name → List Row
defaulted rows n = with_default rows (rule_for n)

kept_budget : (rows : List Row) → defaulted rows budget ≡ rows
kept_budget rows = same_rows (has_row (spelled budget) rows) rows

kept_cache : (rows : List Row) → defaulted rows cache ≡ rows
kept_cache rows = same_rows (has_row (spelled cache) rows) rows

kept_drill : (rows : List Row) → defaulted rows drill ≡ rows
kept_drill rows = same_rows (has_row (spelled drill) rows) rows

kept_file : (rows : List Row) → defaulted rows file ≡ rows
kept_file rows = same_rows (has_row (spelled file) rows) rows

-- only the two flags have defaults
two_defaults : (rows : List Row) → fold with_default rows rules ≡ defaulted (defaulted rows stats) keep_going
two_defaults rows =
    kept_file _ ∙ kept_drill _ ∙ ap (λ rows. defaulted (defaulted rows stats) keep_going) (kept_cache (defaulted rows budget) ∙ kept_budget rows)

abbrev default_row : Name → Row
default_row n = record { id = spelled n; values = codes "false" ∷ []; count = None; source = Some DefaultValue; reading = reading.AsWritten }

none_or : {X : Type 0} (o : Option X) → option_or o None ≡ o
none_or None = refl
none_or (Some x) = refl

there_next : (b more : Bool) (r : Row) (rest d : Option Row) → (more ≡ true → option_or rest d ≡ rest) → (b || more) ≡ true → option_or (cond b (Some r) rest) d ≡ cond b (Some r) rest
there_next true more r rest d next e = refl
there_next false more r rest d next e = next e

there : (id : Text) (rows : List Row) (d : Option Row) → has_row id rows ≡ true → option_or (found id rows) d ≡ found id rows
there id [] d e = absurd (true≢false (sym e))
there id (r ∷ rs) d e = there_next (bytes_eq r.id id) (has_row id rs) r (found id rs) d (there id rs d) e

-- a default's row stands at the end, where there was none before
defaulted_found : (n : Name) (id : Text) (rows : List Row) (b : Bool) → has_row (spelled n) rows ≡ b
    → found id (if b then rows else rows ++ default_row n ∷ []) ≡ (if b then found id rows else option_or (found id rows) (cond (bytes_eq (spelled n) id) (Some (default_row n)) None))
defaulted_found n id rows true e = refl
defaulted_found n id rows false e = find-append (λ r. bytes_eq r.id id) rows (default_row n ∷ [])

abbrev put_default : Name → List Row → List Row
put_default n rows = default_rows (spelled n) reading.AsWritten (codes "false" ∷ []) rows

put_last : (n : Name) (rows : List Row) → has_row (spelled n) rows ≡ false → put_default n rows ≡ rows ++ default_row n ∷ []
put_last n rows e = at_fresh_row (spelled n) (more_values DefaultValue (codes "false" ∷ [])) (default_row n ∷ []) rows e

-- the row of another name
other_found : (n : Name) (id : Text) (rows : List Row) → bytes_eq (spelled n) id ≡ false → found id (if has_row (spelled n) rows then rows else put_default n rows) ≡ found id rows
other_found n id rows other = go (has_row (spelled n) rows) refl
  where
    go : (b : Bool) → has_row (spelled n) rows ≡ b → found id (if b then rows else put_default n rows) ≡ found id rows
    go true e = refl
    go false e = ap (found id) (put_last n rows e) ∙ find-append (λ r. bytes_eq r.id id) rows (default_row n ∷ [])
        ∙ ap (λ b. option_or (found id rows) (cond b (Some (default_row n)) None)) other ∙ none_or (found id rows)

-- the row of the flag itself
own_found : (n : Name) (rows : List Row) → bytes_eq (spelled n) (spelled n) ≡ true
    → found (spelled n) (if has_row (spelled n) rows then rows else put_default n rows) ≡ option_or (found (spelled n) rows) (Some (default_row n))
own_found n rows own = go (has_row (spelled n) rows) refl
  where
    go : (b : Bool) → has_row (spelled n) rows ≡ b → found (spelled n) (if b then rows else put_default n rows) ≡ option_or (found (spelled n) rows) (Some (default_row n))
    go true e = sym (there (spelled n) rows (Some (default_row n)) e)
    go false e = ap (found (spelled n)) (put_last n rows e) ∙ find-append (λ r. bytes_eq r.id (spelled n)) rows (default_row n ∷ [])
        ∙ ap (λ b. option_or (found (spelled n) rows) (cond b (Some (default_row n)) None)) own

-- ---- what was said

same_text : (a b : Text) → bytes_eq a b ≡ true → a ≡ b
same_text a b e = (bytes_eq-Decides a b).0 e

-- an option's value, or FILE
value_found : (n : Name) (said : Said) → is_flag (spelled n) ≡ false → option_and_then (λ r. slice_get r.values 0) (found (spelled n) (rows_for said)) ≡ text_of n said
value_found n [] plain = refl
value_found n (p ∷ said) plain = go (bytes_eq (spelled p.0) (spelled n)) refl (value_found n said plain)
  where
    go : (b : Bool) → bytes_eq (spelled p.0) (spelled n) ≡ b → option_and_then (λ r. slice_get r.values 0) (found (spelled n) (rows_for said)) ≡ text_of n said
        → option_and_then (λ r. slice_get r.values 0) (cond b (Some (row_for p)) (found (spelled n) (rows_for said))) ≡ option_map (λ p. p.1) (cond b (Some p) (find (λ p. is_name n p.0) said))
    go true e more = ap (λ name. Some (value_for name p.1)) (same_text (spelled p.0) (spelled n) e) ∙ ap (λ b. Some (cond b (codes "true") p.1)) plain
    go false e more = more

flag_found : (n : Name) (said : Said) → is_flag (spelled n) ≡ true → option_and_then row_text (option_or (found (spelled n) (rows_for said)) (Some (default_row n))) ≡ Some (flag_text (is_said n said))
flag_found n [] flag = refl
flag_found n (p ∷ said) flag = go (bytes_eq (spelled p.0) (spelled n)) refl (flag_found n said flag)
  where
    go : (b : Bool) → bytes_eq (spelled p.0) (spelled n) ≡ b → option_and_then row_text (option_or (found (spelled n) (rows_for said)) (Some (default_row n))) ≡ Some (flag_text (is_said n said))
        → option_and_then row_text (option_or (cond b (Some (row_for p)) (found (spelled n) (rows_for said))) (Some (default_row n))) ≡ Some (flag_text (b || is_said n said))
    go true e more = ap (λ name. Some (value_for name p.1)) (same_text (spelled p.0) (spelled n) e) ∙ ap (λ b. Some (cond b (codes "true") p.1)) flag
    go false e more = more

abbrev all_rows : Said → List Row
all_rows said = fold with_default (rows_for said) rules

value_row : (n : Name) (said : Said) → bytes_eq (spelled stats) (spelled n) ≡ false → bytes_eq (spelled keep_going) (spelled n) ≡ false → is_flag (spelled n) ≡ false
    → first_of (spelled n) (all_rows said) ≡ text_of n said
value_row n said s k plain =
    ap (λ o. option_and_then (λ r. slice_get r.values 0) o)
    (ap (found (spelled n)) (two_defaults (rows_for said)) ∙ other_found keep_going (spelled n) (defaulted (rows_for said) stats) k ∙ other_found stats (spelled n) (rows_for said) s)
    ∙ value_found n said plain

stats_row : (said : Said) → one_of (spelled stats) (all_rows said) ≡ Some (flag_text (is_said stats said))
stats_row said =
    ap (option_and_then row_text)
    (ap (found (spelled stats)) (two_defaults (rows_for said)) ∙ other_found keep_going (spelled stats) (defaulted (rows_for said) stats) refl ∙ own_found stats (rows_for said) refl)
    ∙ flag_found stats said refl

keep_going_row : (said : Said) → one_of (spelled keep_going) (all_rows said) ≡ Some (flag_text (is_said keep_going said))
keep_going_row said =
    ap (option_and_then row_text)
    (ap (found (spelled keep_going)) (two_defaults (rows_for said)) ∙ own_found keep_going (defaulted (rows_for said) stats) refl
    ∙ ap (λ o. option_or o (Some (default_row keep_going))) (other_found stats (spelled keep_going) (rows_for said) refl))
    ∙ flag_found keep_going said refl

-- the getters, where the matches have these rows
pub shows : (m : ArgMatches) (said : Said) → rows_of (found_of m) ≡ all_rows said → Shows m said
shows m said e = record {
  of_budget = value budget refl refl refl;
  of_cache = value cache refl refl refl;
  of_drill = value drill refl refl refl;
  of_file = value file refl refl refl;
  of_stats = one_text-rows (found_of m) (spelled stats) ∙ ap (one_of (spelled stats)) e ∙ stats_row said;
  of_keep_going = one_text-rows (found_of m) (spelled keep_going) ∙ ap (one_of (spelled keep_going)) e ∙ keep_going_row said;
}
  where
    value : (n : Name) → bytes_eq (spelled stats) (spelled n) ≡ false → bytes_eq (spelled keep_going) (spelled n) ≡ false → is_flag (spelled n) ≡ false
        → first_value (found_of m) (spelled n) ≡ text_of n said
    value n s k plain = first_value-rows (found_of m) (spelled n) ∙ ap (first_of (spelled n)) e ∙ value_row n said s k plain
