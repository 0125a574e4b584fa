-- One word: `clap`'s walk goes along with the plain reading.
use Rattle.std.proofs.Common.{◌≡◌, refl, sym, subst, ℕ, ◌⊎◌, Bool, true, false, ◌||◌, ◌&&◌, cond, if◌then◌else◌, List, [], ◌∷◌, Option, Some, None, bytes_eq, option_map, is_some, slice_get, chars, true≢false}
use Rattle.std.specs.Option.{option_map_or}
use Rattle.clap.specs.Simple.{Shape, built}
use Rattle.clap.specs.Walk.{Held, Row, Rule, Step, Waiting, Walk, after_step, arg_by_long, idle, is_pending, long_or_other, option, positional, positional_held, settled_rows, short_or_plain, trailing, walked_from, pushed}
use Rattle.clap.specs.Faults.{bundle_fault, flag_word_fault, flags_fault, long_fault, option_fault, positional_fault, react_fault, settle_fault, step_fault, turn_fault}
use Rattle.clap.specs.Kinds.{Kinds, or_else}
use Rattle.clap.specs.Lexer.{long_of}
use Rattle.clap.specs.declared.error.kind.ErrorKind.TheVariants as kind
use Rattle.sg_words.specs.Arguments.{synopsis}
use Rattle.sg_words.proofs.Tolerant.{kind_of}
use Rattle.sg_words.specs.Words.{Kind, Name, Place, Read, Said, Text, anywhere, budget, cache, drill, file, file_alone, is_name, is_said, keep_going, option_named, spelled, stats, takes_value, value_of}
use Rattle.sg_words.proofs.Rules.{rule_for, rules}
use Rattle.sg_words.proofs.Rows.{rows_for}
use Rattle.sg_words.proofs.Views.{Looks, two_hyphens}

abbrev pub shape : Shape
shape = (built synopsis).top

abbrev pub Pending : Type 0
Pending = Option (Text × List Text)

abbrev pub held : List Row → Pending → Held
held rows pending = record { rows = rows; pending = pending; skip = 0 }

abbrev pub walk_at : Waiting → ℕ → Bool → List Row → Pending → Walk
walk_at waiting position is_trailing rows pending = record { held = held rows pending; waiting = waiting; position = position; is_trailing = is_trailing; stopped = None }

abbrev pub refuses : Kinds → Bool
refuses [] = false
refuses (k ∷ ks) = true

abbrev pub fault_held : List Row → Pending → Kinds
fault_held rows pending = settle_fault rules false (held rows pending)

-- what is held, with what waits, is what was said
pub record Holds (rows : List Row) (pending : Pending) (said : Said) : Type 0 where
  pub fine : fault_held rows pending ≡ []
  pub rows_are : settled_rows rules pending rows ≡ rows_for said

abbrev pub position_by : Bool → ℕ
position_by b = if b then 2 else 1

abbrev pub position_for : Said → ℕ
position_for said = position_by (is_said file said)

-- the walk stands where the plain reading stands
abbrev pub Stands : Place → Said → Walk → Type 0
Stands anywhere said w = (rows : List Row) × (pending : Pending) × (w ≡ walk_at idle (position_for said) false rows pending) × Holds rows pending said
Stands (value_of n) said w = (takes_value n ≡ true) × (is_name file n ≡ false) × (w ≡ walk_at (option (spelled n)) (position_for said) false (rows_for said) (Some (spelled n, [])))
Stands file_alone said w = (rows : List Row) × (pending : Pending) × (waiting : Waiting) × (w ≡ walk_at waiting (position_for said) true rows pending) × Holds rows pending said

-- the walk will be refused when what waits is used
pub record Doomed (w : Walk) : Type 0 where
  pub rows : List Row
  pub pending : Pending
  pub waiting : Waiting
  pub late : Bool
  pub is_trailing : Bool
  pub is : w ≡ walk_at waiting (position_by late) is_trailing rows pending
  pub open_to_file : (is_trailing ≡ true) ⊎ ((is_trailing ≡ false) × (waiting ≡ idle))
  pub refused : refuses (fault_held rows pending) ≡ true

abbrev pub Steps : Read → Kinds → Walk → Type 0
Steps (Some next) fault w = (fault ≡ []) × Stands next.0 next.1 w
Steps None fault w = (refuses fault ≡ true) ⊎ Doomed w

-- ---- a word by how it looks

module _ (waiting : Waiting) (position : ℕ) (rows : List Row) (pending : Pending) (word : Text) where
  abbrev start : Walk
  start = walk_at waiting position false rows pending

  abbrev h : Held
  h = held rows pending

  abbrev met_by : Bool → Option (Text × Option Text) → Held × Step
  met_by d long = if d then (h, trailing position) else long_or_other rules waiting word long h

  abbrev pub StepsBy : Read → Bool → Option (Text × Option Text) → Type 0
  StepsBy read d long = Steps read
      (or_else (if d then [] else flag_word_fault rules false long word h) (step_fault shape position (met_by d long).0 (met_by d long).1))
      (after_step rules word start (met_by d long).0 (met_by d long).1)

  abbrev pub ShortStepsBy : Read → Option Text → Type 0
  ShortStepsBy read short = Steps read
      (or_else (option_map_or (λ flags. bundle_fault rules false flags h) short []) (step_fault shape position (short_or_plain rules waiting word short h).0 (short_or_plain rules waiting word short h).1))
      (after_step rules word start (short_or_plain rules waiting word short h).0 (short_or_plain rules waiting word short h).1)

  abbrev pub StepsFrom : Read → Type 0
  StepsFrom read = Steps read (turn_fault shape [] start word) (walked_from rules [] None start word)

-- the command has no subcommand, so it does not matter what waits
from_looks : (waiting : Waiting) (position : ℕ) (rows : List Row) (pending : Pending) (word : Text) (read : Read)
    → StepsBy waiting position rows pending word read (bytes_eq word two_hyphens) (long_of word) → StepsFrom waiting position rows pending word read
from_looks idle position rows pending word read s = s
from_looks (option id) position rows pending word read s = s
from_looks positional position rows pending word read s = s

module _ (waiting : Waiting) (position : ℕ) (rows : List Row) (pending : Pending) (word : Text) where
  module _ (read : Kind → Read) (k : Kind) where
    abbrev By : Read → Bool → Option (Text × Option Text) → Type 0
    By = StepsBy waiting position rows pending word

    abbrev From : Read → Type 0
    From = StepsFrom waiting position rows pending word

    kind_step : kind_of word ≡ k → By (read k) (bytes_eq word two_hyphens) (long_of word) → From (read (kind_of word))
    kind_step e s = from_looks waiting position rows pending word (read (kind_of word)) (subst (λ k. By (read k) (bytes_eq word two_hyphens) (long_of word)) (sym e) s)

    pub dashes_step : Looks word k true None None → By (read k) true None → From (read (kind_of word))
    dashes_step looks s = kind_step looks.kind_is (subst (λ d. By (read k) d (long_of word)) (sym looks.dashes_is) (subst (λ long. By (read k) true long) (sym looks.long_is) s))

    pub long_step : (p : Text × Option Text) → Looks word k false (Some p) None → By (read k) false (Some p) → From (read (kind_of word))
    long_step p looks s =
        kind_step looks.kind_is (subst (λ d. By (read k) d (long_of word)) (sym looks.dashes_is) (subst (λ long. By (read k) false long) (sym looks.long_is) s))

    pub short_step : (short : Option Text) → Looks word k false None short → ShortStepsBy waiting position rows pending word (read k) short → From (read (kind_of word))
    short_step short looks s =
        kind_step looks.kind_is (subst (λ d. By (read k) d (long_of word)) (sym looks.dashes_is) (subst (λ long. By (read k) false long) (sym looks.long_is)
        (subst (λ short. ShortStepsBy waiting position rows pending word (read k) short) (sym looks.short_is) s)))

-- ---- what is refused

pub refuses_first : (x y : Kinds) → refuses x ≡ true → refuses (or_else x y) ≡ true
refuses_first [] y e = absurd (true≢false (sym e))
refuses_first (k ∷ ks) y e = refl

pub refuses_next : (x y : Kinds) → refuses y ≡ true → refuses (or_else x y) ≡ true
refuses_next [] y e = e
refuses_next (k ∷ ks) y e = refl

-- the rule of an option, by the five names
pub rule_named : (name : Text) → arg_by_long rules name ≡ option_map rule_for (option_named name)
rule_named name = go (bytes_eq (spelled budget) name) (bytes_eq (spelled cache) name) (bytes_eq (spelled stats) name) (bytes_eq (spelled keep_going) name) (bytes_eq (spelled drill) name)
  where
    go : (a b c d e : Bool) → cond (a || false) (Some (rule_for budget)) (cond (b || false) (Some (rule_for cache)) (cond (c || false) (Some (rule_for stats)) (cond (d || false) (Some (rule_for keep_going)) (cond (e || false) (Some (rule_for drill)) None))))
        ≡ option_map rule_for (cond a (Some budget) (cond b (Some cache) (cond c (Some stats) (cond d (Some keep_going) (cond e (Some drill) None)))))
    go true b c d e = refl
    go false true c d e = refl
    go false false true d e = refl
    go false false false true e = refl
    go false false false false true = refl
    go false false false false false = refl

-- what holds of no option and of each of the five holds of the option of every name
pub by_option : (P : Option Name → Type 0) → P None → P (Some budget) → P (Some cache) → P (Some stats) → P (Some keep_going) → P (Some drill) → (name : Text) → P (option_named name)
by_option P n b c s k d name = go (bytes_eq (spelled budget) name) (bytes_eq (spelled cache) name) (bytes_eq (spelled stats) name) (bytes_eq (spelled keep_going) name) (bytes_eq (spelled drill) name)
  where
    go : (a b c d e : Bool) → P (cond a (Some budget) (cond b (Some cache) (cond c (Some stats) (cond d (Some keep_going) (cond e (Some drill) None)))))
    go true _ _ _ _ = b
    go false true _ _ _ = c
    go false false true _ _ = s
    go false false false true _ = k
    go false false false false true = d
    go false false false false false = n

-- where what waits is refused, every option is
pub long_refused : (rows : List Row) (pending : Pending) (name : Text) (value : Option Text) → refuses (fault_held rows pending) ≡ true
    → refuses (long_fault rules false (arg_by_long rules name) value (held rows pending)) ≡ true
long_refused rows pending name value e =
    subst (λ found. refuses (long_fault rules false found value (held rows pending)) ≡ true) (sym (rule_named name)) (by_option (P value) refl (valued (rule_for budget) value) (valued (rule_for cache) value) (flag (rule_for stats) value) (flag (rule_for keep_going) value) (valued (rule_for drill) value) name)
  where
    P : Option Text → Option Name → Type 0
    P value o = refuses (long_fault rules false (option_map rule_for o) value (held rows pending)) ≡ true

    valued : (a : Rule) (value : Option Text) → refuses (option_fault rules false a value (held rows pending)) ≡ true
    valued a None = e
    valued a (Some v) = refuses_first (fault_held rows pending) _ e

    flag : (a : Rule) (value : Option Text) → refuses (if is_some value then kind.TooManyValues ∷ [] else react_fault rules false a [] (held rows pending)) ≡ true
    flag a None = refuses_first (fault_held rows pending) _ e
    flag a (Some v) = refl

-- the command has no option of one letter
pub short_refused : (rows : List Row) (pending : Pending) (c : ℕ) (cs : Text) (x : ℕ) → slice_get (chars (c ∷ cs)) 0 ≡ Some x → refuses (bundle_fault rules false (c ∷ cs) (held rows pending)) ≡ true
unfolding flags_fault
short_refused rows pending c cs x e = rw e refl

-- a positional that takes one value uses what waits first
pub takes_one : (rows : List Row) (pending : Pending) → positional_fault rules false (rule_for file) (held rows pending) ≡ fault_held rows pending
takes_one rows pending = go (is_pending (rule_for file) pending)
  where
    go : (b : Bool) → (if b && false then [] else fault_held rows pending) ≡ fault_held rows pending
    go true = refl
    go false = refl

pub holds_one : (rows : List Row) (pending : Pending) (word : Text) → positional_held rules (rule_for file) word (held rows pending) ≡ held (settled_rows rules pending rows) (Some (spelled file, word ∷ []))
holds_one rows pending word = go (is_pending (rule_for file) pending)
  where
    go : (b : Bool) → pushed (spelled file) word (if b && false then held rows pending else held (settled_rows rules pending rows) None) ≡ held (settled_rows rules pending rows) (Some (spelled file, word ∷ []))
    go true = refl
    go false = refl
