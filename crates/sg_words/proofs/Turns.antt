-- One word, at each place: `clap`'s walk goes along with the plain reading.
use Rattle.std.proofs.Common.{◌≡◌, ◌∙◌, refl, sym, ap, ap₂, subst, ℕ, inl, inr, Bool, true, false, ◌||◌, if◌then◌else◌, List, [], ◌∷◌, ◌++◌, Option, Some, None, option_map, true≢false, IsUtf8}
use Rattle.std.specs.Option.{option_map_or}
use Rattle.std.proofs.lemmas.List.Folds.{list_any-append}
use Rattle.clap.specs.Walk.{Held, Row, Rule, Waiting, Walk, after_flag, after_step, arg_by_id, arg_by_index, arg_by_long, idle, long_met, option, option_word, settled_rows, to_positional, used, walked_from}
use Rattle.clap.specs.Faults.{long_fault, positional_fault, step_fault, stray_fault, turn_fault, use_fault}
use Rattle.clap.specs.Kinds.{Kinds, or_else}
use Rattle.sg_words.specs.Words as plainly
use Rattle.sg_words.proofs.Tolerant.{kind_of, read_word}
use Rattle.sg_words.specs.Words.{Kind, Name, Place, Read, Said, Text, anywhere, budget, cache, drill, file, file_alone, is_name, is_said, keep_going, name_in, option_named, read_any, read_option, read_value, say, spelled, stats, takes_value, value_in, value_of}
use Rattle.sg_words.proofs.Rules.{rule_for, rules}
use Rattle.sg_words.proofs.Rows.{given, rows_for, use_again, use_new, used_new}
use Rattle.sg_words.proofs.Views.{View, is_dashes, is_option, is_other, is_plain, view}
use Rattle.sg_words.proofs.Steps.{Doomed, Holds, Pending, Stands, Steps, StepsFrom, by_option, dashes_step, fault_held, held, holds_one, long_refused, long_step, position_by, position_for, refuses, refuses_first, rule_named, shape, short_refused, short_step, takes_one, walk_at}

-- ---- where FILE stands in the positionals

or_false : (b : Bool) → (b || false) ≡ b
or_false true = refl
or_false false = refl

said_more : (m n : Name) (text : Text) (said : Said) → is_said m (said ++ (n, text) ∷ []) ≡ (is_said m said || (is_name m n || false))
said_more m n text said = list_any-append (λ p. is_name m p.0) said ((n, text) ∷ [])

same_place : (n : Name) (text : Text) (said : Said) → is_name file n ≡ false → position_for (said ++ (n, text) ∷ []) ≡ position_for said
same_place n text said e = ap position_by (said_more file n text said ∙ ap (λ b. is_said file said || (b || false)) e ∙ or_false (is_said file said))

next_place : (text : Text) (said : Said) → is_said file said ≡ false → position_for (said ++ (file, text) ∷ []) ≡ 2
next_place text said e = ap position_by (said_more file file text said ∙ ap (λ b. b || true) e)

-- ---- a value that waits

pending_fault : (n : Name) (values : List Text) (rows : List Row) → fault_held rows (Some (spelled n, values)) ≡ use_fault false (rule_for n) values rows
pending_fault budget values rows = refl
pending_fault cache values rows = refl
pending_fault stats values rows = refl
pending_fault keep_going values rows = refl
pending_fault drill values rows = refl
pending_fault file values rows = refl

pending_rows : (n : Name) (values : List Text) (rows : List Row) → settled_rows rules (Some (spelled n, values)) rows ≡ used (rule_for n) values rows
pending_rows budget values rows = refl
pending_rows cache values rows = refl
pending_rows stats values rows = refl
pending_rows keep_going values rows = refl
pending_rows drill values rows = refl
pending_rows file values rows = refl

given_one : (n : Name) (text : Text) → takes_value n ≡ true → text ∷ [] ≡ given n text
given_one budget text e = refl
given_one cache text e = refl
given_one stats text e = absurd (true≢false (sym e))
given_one keep_going text e = absurd (true≢false (sym e))
given_one drill text e = refl
given_one file text e = refl

-- a value of what was not said before holds
pending_holds : (n : Name) (text : Text) (said : Said) (rows : List Row) → takes_value n ≡ true → rows ≡ rows_for said → is_said n said ≡ false
    → Holds rows (Some (spelled n, text ∷ [])) (said ++ (n, text) ∷ [])
pending_holds n text said rows v r e = record {
  fine = pending_fault n (text ∷ []) rows ∙ ap₂ (use_fault false (rule_for n)) (given_one n text v) r ∙ use_new n text said e;
  rows_are = pending_rows n (text ∷ []) rows ∙ ap₂ (used (rule_for n)) (given_one n text v) r ∙ used_new n text said e;
}

pending_again : (n : Name) (text : Text) (said : Said) → takes_value n ≡ true → is_said n said ≡ true → refuses (fault_held (rows_for said) (Some (spelled n, text ∷ []))) ≡ true
pending_again n text said v e = ap refuses (pending_fault n (text ∷ []) (rows_for said) ∙ ap (λ values. use_fault false (rule_for n) values (rows_for said)) (given_one n text v) ∙ use_again n text said e)

pub pending_none : (n : Name) (rows : List Row) → takes_value n ≡ true → refuses (fault_held rows (Some (spelled n, []))) ≡ true
pending_none budget rows e = refl
pending_none cache rows e = refl
pending_none stats rows e = absurd (true≢false (sym e))
pending_none keep_going rows e = absurd (true≢false (sym e))
pending_none drill rows e = refl
pending_none file rows e = refl

word_taken : (n : Name) (word : Text) (rows : List Row)
    → option_word (arg_by_id rules (spelled n)) (spelled n) word (held rows (Some (spelled n, []))) ≡ (held rows (Some (spelled n, word ∷ [])), idle)
word_taken budget word rows = refl
word_taken cache word rows = refl
word_taken stats word rows = refl
word_taken keep_going word rows = refl
word_taken drill word rows = refl
word_taken file word rows = refl

-- ---- an option

module _ (rows : List Row) (pending : Pending) (said : Said) (holds : Holds rows pending said) where
  use_now : (n : Name) (text : Text) → is_name file n ≡ false
      → Steps (say n text anywhere said)
      (or_else (or_else (fault_held rows pending) (use_fault false (rule_for n) (given n text) (settled_rows rules pending rows))) [])
      (walk_at idle (position_for said) false (used (rule_for n) (given n text) (settled_rows rules pending rows)) None)
  use_now n text apart = subst (λ fault. Goal fault (settled_rows rules pending rows)) (sym holds.fine) (subst (λ rows. Goal [] rows) (sym holds.rows_are) (go (is_said n said) refl))
    where
      Goal : Kinds → List Row → Type 0
      Goal fault rows = Steps (say n text anywhere said)
          (or_else (or_else fault (use_fault false (rule_for n) (given n text) rows)) [])
          (walk_at idle (position_for said) false (used (rule_for n) (given n text) rows) None)

      go : (b : Bool) → is_said n said ≡ b
          → Steps (if b then None else Some (anywhere, said ++ (n, text) ∷ []))
          (or_else (use_fault false (rule_for n) (given n text) (rows_for said)) [])
          (walk_at idle (position_for said) false (used (rule_for n) (given n text) (rows_for said)) None)
      go true e = inl (ap (λ ks. refuses (or_else ks [])) (use_again n text said e))
      go false e = (
        ap (λ ks. or_else ks []) (use_new n text said e),
        (
          used (rule_for n) (given n text) (rows_for said),
          None,
          ap (λ p. walk_at idle p false (used (rule_for n) (given n text) (rows_for said)) None) (sym (same_place n text said apart)),
          record { fine = refl; rows_are = used_new n text said e },
        ),
      )

  value_next : (n : Name) → takes_value n ≡ true → is_name file n ≡ false
      → Steps (Some (value_of n, said)) (or_else (fault_held rows pending) []) (walk_at (option (spelled n)) (position_for said) false (settled_rows rules pending rows) (Some (spelled n, [])))
  value_next n v apart = (ap (λ ks. or_else ks []) holds.fine, (v, apart, ap (λ rows. walk_at (option (spelled n)) (position_for said) false rows (Some (spelled n, []))) holds.rows_are))

  module _ (word : Text) where
    abbrev Long : Option Text → Option Rule → Option Name → Type 0
    Long value found o =
        let m = after_flag rules idle word (long_met rules found value (held rows pending)).0 (long_met rules found value (held rows pending)).1 in
        Steps (read_option o value said) (or_else (long_fault rules false found value (held rows pending)) (step_fault shape (position_for said) m.0 m.1))
        (after_step rules word (walk_at idle (position_for said) false rows pending) m.0 m.1)

    long_turn : (name : Text) (value : Option Text) → Long value (arg_by_long rules name) (option_named name)
    long_turn name value =
        subst (λ found. Long value found (option_named name)) (sym (rule_named name))
        (by_option (λ o. Long value (option_map rule_for o) o) (unknown value) (at_budget value) (at_cache value) (at_stats value) (at_keep_going value) (at_drill value) name)
      where
        unknown : (value : Option Text) → Long value None None
        unknown None = inl refl
        unknown (Some v) = inl refl

        at_budget : (value : Option Text) → Long value (Some (rule_for budget)) (Some budget)
        at_budget None = value_next budget refl refl
        at_budget (Some v) = use_now budget v refl

        at_cache : (value : Option Text) → Long value (Some (rule_for cache)) (Some cache)
        at_cache None = value_next cache refl refl
        at_cache (Some v) = use_now cache v refl

        at_drill : (value : Option Text) → Long value (Some (rule_for drill)) (Some drill)
        at_drill None = value_next drill refl refl
        at_drill (Some v) = use_now drill v refl

        at_stats : (value : Option Text) → Long value (Some (rule_for stats)) (Some stats)
        at_stats None = use_now stats [] refl
        at_stats (Some v) = inl refl

        at_keep_going : (value : Option Text) → Long value (Some (rule_for keep_going)) (Some keep_going)
        at_keep_going None = use_now keep_going [] refl
        at_keep_going (Some v) = inl refl

-- ---- FILE

abbrev File : Read → ℕ → Waiting → Bool → List Row → Pending → Text → Type 0
File read position waiting is_trailing rows pending word = Steps read
    (option_map_or (λ a. positional_fault rules false a (held rows pending)) (arg_by_index rules position) (stray_fault shape))
    (to_positional rules (arg_by_index rules position) word (walk_at waiting position is_trailing rows pending) (held rows pending))

file_any : (waiting : Waiting) (rows : List Row) (pending : Pending) (said : Said) (word : Text) → Holds rows pending said
    → File (say file word anywhere said) (position_for said) waiting false rows pending word
file_any waiting rows pending said word holds = go (is_said file said) refl
  where
    go : (b : Bool) → is_said file said ≡ b → File (if b then None else Some (anywhere, said ++ (file, word) ∷ [])) (position_by b) waiting false rows pending word
    go true e = inl refl
    go false e = (
      takes_one rows pending ∙ holds.fine,
      (
        settled_rows rules pending rows,
        Some (spelled file, word ∷ []),
        ap₂ (λ (h : Held) p. record { held = h; waiting = idle; position = p; is_trailing = false; stopped = None }) (holds_one rows pending word) (sym (next_place word said e)),
        pending_holds file word said (settled_rows rules pending rows) refl holds.rows_are e,
      ),
    )

file_trailing : (waiting : Waiting) (rows : List Row) (pending : Pending) (said : Said) (word : Text) → Holds rows pending said
    → File (say file word file_alone said) (position_for said) waiting true rows pending word
file_trailing waiting rows pending said word holds = go (is_said file said) refl
  where
    go : (b : Bool) → is_said file said ≡ b → File (if b then None else Some (file_alone, said ++ (file, word) ∷ [])) (position_by b) waiting true rows pending word
    go true e = inl refl
    go false e = (
      takes_one rows pending ∙ holds.fine,
      (
        settled_rows rules pending rows,
        Some (spelled file, word ∷ []),
        idle,
        ap₂ (λ (h : Held) p. record { held = h; waiting = idle; position = p; is_trailing = true; stopped = None }) (holds_one rows pending word) (sym (next_place word said e)),
        pending_holds file word said (settled_rows rules pending rows) refl holds.rows_are e,
      ),
    )

-- what waits is used before FILE, and refused
doomed_file : (waiting : Waiting) (late is_trailing : Bool) (rows : List Row) (pending : Pending) (word : Text) → refuses (fault_held rows pending) ≡ true
    → File None (position_by late) waiting is_trailing rows pending word
doomed_file waiting true is_trailing rows pending word e = inl refl
doomed_file waiting false is_trailing rows pending word e = inl (ap refuses (takes_one rows pending) ∙ e)

-- ---- the places

any_turn : (rows : List Row) (pending : Pending) (said : Said) (word : Text) → Holds rows pending said → View word
    → StepsFrom idle (position_for said) rows pending word (read_any (kind_of word) word said)
any_turn rows pending said word holds (is_plain looks) =
    short_step idle (position_for said) rows pending word (λ k. read_any k word said) plainly.plain None looks (file_any idle rows pending said word holds)
any_turn rows pending said word holds (is_dashes looks) =
    dashes_step idle (position_for said) rows pending word (λ k. read_any k word said) plainly.dashes looks (refl, (rows, pending, idle, refl, holds))
any_turn rows pending said word holds (is_option text looks) =
    long_step idle (position_for said) rows pending word (λ k. read_any k word said) (plainly.option text) (name_in text, value_in text) looks (long_turn rows pending said holds word (name_in text) (value_in text))
any_turn rows pending said word holds (is_other c cs x looks e) =
    short_step idle (position_for said) rows pending word (λ k. read_any k word said) plainly.other (Some (c ∷ cs)) looks (inl (refuses_first _ _ (short_refused rows pending c cs x e)))

value_turn : (n : Name) (said : Said) (word : Text) → takes_value n ≡ true → is_name file n ≡ false → View word
    → StepsFrom (option (spelled n)) (position_for said) (rows_for said) (Some (spelled n, [])) word (read_value (kind_of word) n word said)
value_turn n said word v apart (is_plain looks) =
    short_step (option (spelled n)) (position_for said) (rows_for said) (Some (spelled n, [])) word (λ k. read_value k n word said) plainly.plain None looks
    (subst (λ (m : Held × Waiting). Steps (say n word anywhere said) [] (record { held = m.0; waiting = m.1; position = position_for said; is_trailing = false; stopped = None }))
    (sym (word_taken n word (rows_for said))) (go (is_said n said) refl))
  where
    go : (b : Bool) → is_said n said ≡ b
        → Steps (if b then None else Some (anywhere, said ++ (n, word) ∷ [])) [] (walk_at idle (position_for said) false (rows_for said) (Some (spelled n, word ∷ [])))
    go true e = inr (record {
      rows = rows_for said;
      pending = Some (spelled n, word ∷ []);
      waiting = idle;
      late = is_said file said;
      is_trailing = false;
      is = refl;
      open_to_file = inr (refl, refl);
      refused = pending_again n word said v e;
    })
    go false e = (
      refl,
      (
        rows_for said,
        Some (spelled n, word ∷ []),
        ap (λ p. walk_at idle p false (rows_for said) (Some (spelled n, word ∷ []))) (sym (same_place n word said apart)),
        pending_holds n word said (rows_for said) v refl e,
      ),
    )
value_turn n said word v apart (is_dashes looks) =
    dashes_step (option (spelled n)) (position_for said) (rows_for said) (Some (spelled n, [])) word (λ k. read_value k n word said) plainly.dashes looks (inr (record {
      rows = rows_for said;
      pending = Some (spelled n, []);
      waiting = option (spelled n);
      late = is_said file said;
      is_trailing = true;
      is = refl;
      open_to_file = inl refl;
      refused = pending_none n (rows_for said) v;
    }))
value_turn n said word v apart (is_option text looks) =
    long_step (option (spelled n)) (position_for said) (rows_for said) (Some (spelled n, [])) word (λ k. read_value k n word said) (plainly.option text) (name_in text, value_in text) looks
    (inl (refuses_first _ _ (long_refused (rows_for said) (Some (spelled n, [])) (name_in text) (value_in text) (pending_none n (rows_for said) v))))
value_turn n said word v apart (is_other c cs x looks e) =
    short_step (option (spelled n)) (position_for said) (rows_for said) (Some (spelled n, [])) word (λ k. read_value k n word said) plainly.other (Some (c ∷ cs)) looks
    (inl (refuses_first _ _ (short_refused (rows_for said) (Some (spelled n, [])) c cs x e)))

doomed_turn : (late : Bool) (rows : List Row) (pending : Pending) (word : Text) → refuses (fault_held rows pending) ≡ true → View word
    → StepsFrom idle (position_by late) rows pending word None
doomed_turn late rows pending word e (is_plain looks) =
    short_step idle (position_by late) rows pending word (λ _. None) plainly.plain None looks (doomed_file idle late false rows pending word e)
doomed_turn late rows pending word e (is_dashes looks) =
    dashes_step idle (position_by late) rows pending word (λ _. None) plainly.dashes looks (inr (record {
      rows = rows;
      pending = pending;
      waiting = idle;
      late = late;
      is_trailing = true;
      is = refl;
      open_to_file = inl refl;
      refused = e;
    }))
doomed_turn late rows pending word e (is_option text looks) =
    long_step idle (position_by late) rows pending word (λ _. None) (plainly.option text) (name_in text, value_in text) looks
    (inl (refuses_first _ _ (long_refused rows pending (name_in text) (value_in text) e)))
doomed_turn late rows pending word e (is_other c cs x looks f) =
    short_step idle (position_by late) rows pending word (λ _. None) plainly.other (Some (c ∷ cs)) looks (inl (refuses_first _ _ (short_refused rows pending c cs x f)))

-- ---- one word

abbrev pub Turns : Walk → Text → Read → Type 0
Turns w word read = Steps read (turn_fault shape [] w word) (walked_from rules [] w.stopped w word)

pub turn : (place : Place) (said : Said) (w : Walk) (word : Text) → IsUtf8 word → Stands place said w → Turns w word (read_word place said word)
turn anywhere said w word u s = subst (λ w. Turns w word (read_word anywhere said word)) (sym s.2) (any_turn s.0 s.1 said word s.3 (view word u))
turn (value_of n) said w word u s = subst (λ w. Turns w word (read_word (value_of n) said word)) (sym s.2) (value_turn n said word s.0 s.1 (view word u))
turn file_alone said w word u s = subst (λ w. Turns w word (read_word file_alone said word)) (sym s.3) (file_trailing s.2 s.0 s.1 said word s.4)

pub doomed : (w : Walk) (word : Text) → IsUtf8 word → Doomed w → Turns w word None
doomed w word u d = subst (λ w. Turns w word None) (sym d.is) (elim d.open_to_file [
  | inl e ↦ subst (λ is_trailing. Turns (walk_at d.waiting (position_by d.late) is_trailing d.rows d.pending) word None) (sym e) (doomed_file d.waiting d.late true d.rows d.pending word d.refused)
  | inr e ↦ subst (λ is_trailing. Turns (walk_at d.waiting (position_by d.late) is_trailing d.rows d.pending) word None) (sym e.0)
      (subst (λ waiting. Turns (walk_at waiting (position_by d.late) false d.rows d.pending) word None) (sym e.1) (doomed_turn d.late d.rows d.pending word d.refused (view word u)))
])
