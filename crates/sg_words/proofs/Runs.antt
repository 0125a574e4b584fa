-- All the words: what `clap` answers of them is what the plain reading says.
use Rattle.std.proofs.Common.{◌≡◌, ◌∙◌, refl, sym, ap, ap₂, subst, ◌⊎◌, inl, inr, Bool, true, false, ◌||◌, cond, if◌then◌else◌, List, [], ◌∷◌, map, fold, Option, Some, None, is_some, option_and_then, IsUtf8}
use Rattle.clap.specs.Walk.{Row, Walk, has_row, nothing_held, settled_rows, walk_from, walked, with_default}
use Rattle.clap.specs.Simple.{built, entered, matches_of}
use Rattle.clap.specs.Faults.{check_fault, default_fault, defaults_fault, entered_fault, fault_of, turn_fault, walk_fault}
use Rattle.clap.specs.Kinds.{Kinds, or_else}
use Rattle.sg_words.specs.Arguments.{synopsis}
use Rattle.sg_words.specs.Words.{Name, Place, Said, Text, anywhere, at_end, budget, cache, drill, file, file_alone, keep_going, spelled, stats, value_of}
use Rattle.sg_words.proofs.Tolerant.{read_from, read_word, said_by}
use Rattle.sg_words.proofs.Rules.{rule_for, rules}
use Rattle.sg_words.proofs.Rows.{rows_for}
use Rattle.sg_words.proofs.Steps.{Doomed, Holds, Stands, fault_held, refuses, refuses_first, refuses_next, shape}
use Rattle.sg_words.proofs.Turns.{Turns, doomed, pending_none, turn}

abbrev pub AllUtf8 : List Text → Type 0
AllUtf8 [] = Unit {0}
AllUtf8 (word ∷ words) = IsUtf8 word × AllUtf8 words

abbrev pub Ends : Option Said → Kinds → Walk → Type 0
Ends (Some said) fault w = (fault ≡ []) × Holds w.held.rows w.held.pending said
Ends None fault w = (refuses fault ≡ true) ⊎ (refuses (fault_held w.held.rows w.held.pending) ≡ true)

ends_here : (place : Place) (said : Said) (w : Walk) → Stands place said w → Ends (at_end place said) [] w
ends_here anywhere said w s = (refl, subst (λ w. Holds w.held.rows w.held.pending said) (sym s.2) s.3)
ends_here (value_of n) said w s = inr (subst (λ w. refuses (fault_held w.held.rows w.held.pending) ≡ true) (sym s.2) (pending_none n (rows_for said) s.0))
ends_here file_alone said w s = (refl, subst (λ w. Holds w.held.rows w.held.pending said) (sym s.3) s.4)

later : (x y : Kinds) (w : Walk) → Ends None y w → Ends None (or_else x y) w
later x y w (inl e) = inl (refuses_next x y e)
later x y w (inr e) = inr e

doomed_runs : (words : List Text) (w : Walk) → AllUtf8 words → Doomed w → Ends None (walk_fault shape [] w words) (fold (walked rules []) w words)
unfolding walk_fault walked
doomed_runs [] w u d = inr (subst (λ w. refuses (fault_held w.held.rows w.held.pending) ≡ true) (sym d.is) d.refused)
doomed_runs (word ∷ words) w u d = elim (doomed w word u.0 d) [
  | inl e ↦ inl (refuses_first (turn_fault shape [] w word) _ e)
  | inr more ↦ later (turn_fault shape [] w word) (walk_fault shape [] (walked rules [] w word) words) (fold (walked rules []) (walked rules [] w word) words) (doomed_runs words (walked rules [] w word) u.1 more)
]

runs : (words : List Text) (place : Place) (said : Said) (w : Walk) → AllUtf8 words → Stands place said w
    → Ends (read_from words place said) (walk_fault shape [] w words) (fold (walked rules []) w words)
unfolding walk_fault walked
runs [] place said w u s = ends_here place said w s
runs (word ∷ words) place said w u s =
    let t = turn place said w word u.0 s in
    elim (read_word place said word) as (λ read. Turns w word read
    → Ends (option_and_then (λ next. read_from words next.0 next.1) read) (or_else (turn_fault shape [] w word) (walk_fault shape [] (walked rules [] w word) words)) (fold (walked rules []) (walked rules [] w word) words)) [
      | Some next ↦ λ t. subst (λ f. Ends (read_from words next.0 next.1) (or_else f (walk_fault shape [] (walked rules [] w word) words)) (fold (walked rules []) (walked rules [] w word) words)) (sym t.0)
          (runs words next.0 next.1 (walked rules [] w word) u.1 t.1)
      | None ↦ λ t. elim t [
        | inl e ↦ inl (refuses_first (turn_fault shape [] w word) _ e)
        | inr d ↦ later (turn_fault shape [] w word) (walk_fault shape [] (walked rules [] w word) words) (fold (walked rules []) (walked rules [] w word) words) (doomed_runs words (walked rules [] w word) u.1 d)
      ]
    ] t

-- ---- after the words

no_default : (b : Bool) (fault : Kinds) → (if b || true then [] else fault) ≡ []
no_default true fault = refl
no_default false fault = refl

fine_default : (b : Bool) → cond {A = Kinds} (b || false) [] [] ≡ []
fine_default true = refl
fine_default false = refl

-- each default passes
default_fine : (n : Name) (rows : List Row) → default_fault rows (rule_for n) ≡ []
default_fine budget rows = no_default (has_row (spelled budget) rows) _
default_fine cache rows = no_default (has_row (spelled cache) rows) _
default_fine stats rows = fine_default (has_row (spelled stats) rows)
default_fine keep_going rows = fine_default (has_row (spelled keep_going) rows)
default_fine drill rows = no_default (has_row (spelled drill) rows) _
default_fine file rows = no_default (has_row (spelled file) rows) _

defaults_fine : (names : List Name) (rows : List Row) → defaults_fault rows (map rule_for names) ≡ []
unfolding defaults_fault
defaults_fine [] rows = refl
defaults_fine (n ∷ names) rows =
    ap (λ ks. or_else ks (defaults_fault (with_default rows (rule_for n)) (map rule_for names))) (default_fine n rows) ∙ defaults_fine names (with_default rows (rule_for n))

abbrev names : List Name
names = budget ∷ cache ∷ stats ∷ keep_going ∷ drill ∷ file ∷ []

abbrev Stop : Type 0
Stop = Option (Text × List Text)

-- the command has no subcommand
no_entry : (stop : Stop) → entered_fault (built synopsis) stop ≡ []
no_entry None = refl
no_entry (Some p) = refl

none_entered : (stop : Stop) → is_some (entered (built synopsis) stop) ≡ false
none_entered None = refl
none_entered (Some p) = refl

abbrev level : Kinds → Kinds → Stop → List Row → Kinds
level walking settling stop rows =
    or_else walking (or_else (entered_fault (built synopsis) stop) (or_else settling (or_else (defaults_fault rows rules) (check_fault shape (fold with_default rows rules) (is_some (entered (built synopsis) stop))))))

level_fine : (stop : Stop) (rows : List Row) → level [] [] stop rows ≡ []
level_fine stop rows =
    ap₂ (λ below ks. or_else below (or_else ks (check_fault shape (fold with_default rows rules) (is_some (entered (built synopsis) stop))))) (no_entry stop) (defaults_fine names rows)
    ∙ ap (check_fault shape (fold with_default rows rules)) (none_entered stop)

-- what `clap` answers: its matches have the rows of what was said, with the defaults of the flags
abbrev pub Agrees : Option Said → Kinds → List Row → Type 0
Agrees (Some said) fault rows = (fault ≡ []) × (rows ≡ fold with_default (rows_for said) rules)
Agrees None fault rows = refuses fault ≡ true

agrees_at : (said : Option Said) (walking : Kinds) (w : Walk) → Ends said walking w
    → Agrees said (level walking (fault_held w.held.rows w.held.pending) w.stopped (settled_rows rules w.held.pending w.held.rows)) (fold with_default (settled_rows rules w.held.pending w.held.rows) rules)
agrees_at (Some said) walking w e = (
  ap₂ (λ walking settling. level walking settling w.stopped (settled_rows rules w.held.pending w.held.rows)) e.0 e.1.fine ∙ level_fine w.stopped (settled_rows rules w.held.pending w.held.rows),
  ap (λ rows. fold with_default rows rules) e.1.rows_are,
)
agrees_at None walking w (inl e) = refuses_first walking _ e
agrees_at None walking w (inr e) = refuses_next walking _ (refuses_next (entered_fault (built synopsis) w.stopped) _ (refuses_first (fault_held w.held.rows w.held.pending) _ e))

pub agrees : (words : List Text) → AllUtf8 words → Agrees (said_by words) (fault_of synopsis words) (matches_of synopsis words)
agrees words u = agrees_at (said_by words) (walk_fault shape [] (walk_from nothing_held) words) (fold (walked rules []) (walk_from nothing_held) words)
    (runs words anywhere [] (walk_from nothing_held) u ([], None, refl, record { fine = refl; rows_are = refl }))
