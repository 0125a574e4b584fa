-- Counts of memos as those of the plain list of asks, and the lines that tell them.
use Rattle.std.proofs.Common.{◌≡◌, ℕ, List, [], ◌∷◌, Bool, true, false, refl, sym, ap, ap₂, ◌∙◌}
use Rattle.std.specs.Prelude.{◌++◌, ◌&&◌, None, Some, if◌then◌else◌}
use Rattle.sg_memo.specs.Lru.{in_turn, empty, after_asks}
use Rattle.sg_memo.proofs.InTurn.{in_turn-empty}
use Rattle.sg_rows.specs.Asks.{Asking, Attribute, apery_table, pseudo_frobenius, presentation, tame_degree}
use Rattle.sg_calls.specs.After.{after_one, after_asked}
use Rattle.sg_store.specs.Attributes.{Attributes, nothing_asked, AreCounts}
use Rattle.sg_store.specs.declared.attributes.Counts.{Counts}
use Rattle.sg_words.specs.Settings.{Wanted}
use Rattle.sgps_cli.specs.Causes.{last_line}
use Rattle.sgps_cli.specs.Statistics.{table_before, numbers_before, presentation_before, tame_before, tables_asked, numbers_asked, presentations_asked, tames_asked, attributes_after, counts_lines, counts_of, lines_of, tells_counts, last_lines, lines_with}
use Rattle.sgps_cli.specs.declared.ending.Cause.{Cause}

-- the memos after these asks
abbrev each_after : List Asking → Attributes → Attributes
each_after asked a = record {
  tables = in_turn (tables_asked asked) a.tables;
  pseudo = in_turn (numbers_asked asked) a.pseudo;
  presentations = in_turn (presentations_asked asked) a.presentations;
  tames = in_turn (tames_asked asked) a.tames;
}

-- one ask, and then others
one-first : (x : Attribute) (G : List ℕ) (asked : List Asking) (a : Attributes)
    → each_after asked (after_one x G a) ≡ record {
      tables = in_turn (table_before x G (tables_asked asked)) a.tables;
      pseudo = in_turn (numbers_before x G (numbers_asked asked)) a.pseudo;
      presentations = in_turn (presentation_before x G (presentations_asked asked)) a.presentations;
      tames = in_turn (tame_before x G (tames_asked asked)) a.tames;
    }
one-first apery_table G asked a = refl
one-first pseudo_frobenius G asked a = refl
one-first presentation G asked a = refl
one-first tame_degree G asked a = refl

-- asks in turn are asks of each memo in turn
each-in-turn : (asked : List Asking) (a : Attributes) → after_asked asked a ≡ each_after asked a
each-in-turn [] a = refl
each-in-turn (x ∷ asked) a = each-in-turn asked (after_one x.0 x.1 a) ∙ one-first x.0 x.1 asked a

-- what is kept from the beginning is what the plain list of asks comes to
pub kept-is : (capacity : ℕ) (asked : List Asking) → after_asked asked (nothing_asked capacity) ≡ attributes_after capacity asked
kept-is capacity asked =
    let none = empty capacity in
    let table = after_asks capacity (tables_asked asked) in
    let numbers = after_asks capacity (numbers_asked asked) in
    let late = in_turn (tames_asked asked) none in
    each-in-turn asked (nothing_asked capacity)
    ∙ (ap₂ (λ t p. record { tables = t; pseudo = p; presentations = in_turn (presentations_asked asked) none; tames = late }) (in_turn-empty capacity (tables_asked asked)) (in_turn-empty capacity (numbers_asked asked))
    ∙ ap₂ (λ r d. record { tables = table; pseudo = numbers; presentations = r; tames = d }) (in_turn-empty capacity (presentations_asked asked)) (in_turn-empty capacity (tames_asked asked)))

-- the numbers that were counted are told as they are kept
abbrev counts_with : ℕ → ℕ → ℕ → ℕ → ℕ → ℕ → ℕ → ℕ → Counts
counts_with t u p q r s d e = record {
  tables_asked = t;
  tables_made = u;
  pseudo_asked = p;
  pseudo_made = q;
  presentations_asked = r;
  presentations_made = s;
  tames_asked = d;
  tames_made = e;
}

counted-is : (a : Attributes) (n : Counts) → AreCounts a n → n ≡ counts_of a
counted-is a n h =
    ap₂ (λ x y. counts_with x y n.pseudo_asked n.pseudo_made n.presentations_asked n.presentations_made n.tames_asked n.tames_made) h.tables_asked h.tables_made
    ∙ (ap₂ (λ x y. counts_with a.tables.asked a.tables.made x y n.presentations_asked n.presentations_made n.tames_asked n.tames_made) h.pseudo_asked h.pseudo_made
    ∙ (ap₂ (λ x y. counts_with a.tables.asked a.tables.made a.pseudo.asked a.pseudo.made x y n.tames_asked n.tames_made) h.presentations_asked h.presentations_made
    ∙ ap₂ (λ x y. counts_with a.tables.asked a.tables.made a.pseudo.asked a.pseudo.made a.presentations.asked a.presentations.made x y) h.tames_asked h.tames_made))

counted-lines : (a : Attributes) (n : Counts) → AreCounts a n → counts_lines n ≡ lines_of a
counted-lines a n h = ap counts_lines (counted-is a n h)

-- the last lines, where the counts are those of the play
pub lines-told : (wanted : Wanted) (c : Cause) (asked : List Asking) (a : Attributes) (n : Counts) → a ≡ after_asked asked (nothing_asked wanted.cache) → AreCounts a n
    → lines_with c (if wanted.stats && tells_counts c then Some n else None) ≡ last_lines wanted c asked
lines-told wanted c asked a n kept counts = go (wanted.stats && tells_counts c)
  where
    go : (b : Bool) → lines_with c (if b then Some n else None) ≡ (if b then last_line c ++ lines_of (attributes_after wanted.cache asked) else last_line c)
    go true = ap (λ l. last_line c ++ l) (counted-lines a n counts ∙ ap lines_of (kept ∙ kept-is wanted.cache asked))
    go false = refl

-- none are told of what is no end of a script
pub untold : {A : Type 0} (b t : Bool) (x y : A) → t ≡ false → (if b && t then x else y) ≡ y
untold true t x y e = ap (λ z. if z then x else y) e
untold false t x y e = refl
