-- What is told of the attributes that were asked for.
use Rattle.std.specs.Prelude.{ℕ, List, [], ◌∷◌, ◌++◌, ◌&&◌, Bool, true, false, Option, Some, None, codes, decimal, if◌then◌else◌}
use Rattle.sg_memo.specs.Lru.{after_asks}
use Rattle.sg_rows.specs.Asks.{Asking, Attribute, apery_table, pseudo_frobenius, presentation, tame_degree}
use Rattle.sg_store.specs.Attributes.{Attributes}
use Rattle.sg_store.specs.declared.attributes.Counts.{Counts}
use Rattle.sg_words.specs.Settings.{Wanted}
use Rattle.sgps_cli.specs.Causes.{last_line}
use Rattle.sgps_cli.specs.declared.ending.Cause.{Cause}
use Rattle.sgps_cli.specs.declared.ending.Cause.TheVariants as cause

-- this semigroup before others, where it is its table that was asked for
abbrev pub table_before : Attribute → List ℕ → List (List ℕ) → List (List ℕ)
table_before apery_table G others = G ∷ others
table_before _ G others = others

-- the same of its pseudo-Frobenius numbers
abbrev pub numbers_before : Attribute → List ℕ → List (List ℕ) → List (List ℕ)
numbers_before pseudo_frobenius G others = G ∷ others
numbers_before _ G others = others

-- the same of its presentation
abbrev pub presentation_before : Attribute → List ℕ → List (List ℕ) → List (List ℕ)
presentation_before presentation G others = G ∷ others
presentation_before _ G others = others

-- the same of its tame degree
abbrev pub tame_before : Attribute → List ℕ → List (List ℕ) → List (List ℕ)
tame_before tame_degree G others = G ∷ others
tame_before _ G others = others

-- the semigroups whose table was asked for, in turn
abbrev pub tables_asked : List Asking → List (List ℕ)
tables_asked [] = []
tables_asked (x ∷ asked) = table_before x.0 x.1 (tables_asked asked)

-- the semigroups whose pseudo-Frobenius numbers were asked for, in turn
abbrev pub numbers_asked : List Asking → List (List ℕ)
numbers_asked [] = []
numbers_asked (x ∷ asked) = numbers_before x.0 x.1 (numbers_asked asked)

-- the semigroups whose presentation was asked for, in turn
abbrev pub presentations_asked : List Asking → List (List ℕ)
presentations_asked [] = []
presentations_asked (x ∷ asked) = presentation_before x.0 x.1 (presentations_asked asked)

-- the semigroups whose tame degree was asked for, in turn
abbrev pub tames_asked : List Asking → List (List ℕ)
tames_asked [] = []
tames_asked (x ∷ asked) = tame_before x.0 x.1 (tames_asked asked)

-- what memos with room for so many come to after these asks: how often each attribute was asked for, and how often it was
-- not among the last ones
abbrev pub attributes_after : ℕ → List Asking → Attributes
attributes_after capacity asked = record {
  tables = after_asks capacity (tables_asked asked);
  pseudo = after_asks capacity (numbers_asked asked);
  presentations = after_asks capacity (presentations_asked asked);
  tames = after_asks capacity (tames_asked asked);
}

-- how often an attribute was asked for and made, as it is printed
abbrev pub counts_line : List ℕ → ℕ → ℕ → List ℕ
counts_line name asked made = name ++ (codes " asked " ++ (decimal asked ++ (codes " made " ++ (decimal made ++ codes "\n"))))

-- the same of all attributes but the tame degree, which no line tells
abbrev pub counts_lines : Counts → List ℕ
counts_lines n =
    counts_line (codes "table") n.tables_asked n.tables_made ++ (counts_line (codes "pseudo") n.pseudo_asked n.pseudo_made ++ counts_line (codes "presentation") n.presentations_asked n.presentations_made)

-- the counts of what is kept
abbrev pub counts_of : Attributes → Counts
counts_of a = record {
  tables_asked = a.tables.asked;
  tables_made = a.tables.made;
  pseudo_asked = a.pseudo.asked;
  pseudo_made = a.pseudo.made;
  presentations_asked = a.presentations.asked;
  presentations_made = a.presentations.made;
  tames_asked = a.tames.asked;
  tames_made = a.tames.made;
}

-- the lines of what is kept
abbrev pub lines_of : Attributes → List ℕ
lines_of a = counts_lines (counts_of a)

-- whether a run that ends so tells its counts, where they are asked for: where its script ended it
abbrev pub tells_counts : Cause → Bool
tells_counts cause.Ok = true
tells_counts (cause.Refusals count line) = true
tells_counts (cause.Script fault line) = true
tells_counts (cause.Budget line) = true
tells_counts cause.Usage = false
tells_counts cause.ReadFault = false
tells_counts cause.Overlong = false
tells_counts cause.WriteFault = false
tells_counts cause.Memory = false

-- the last lines of a run: that of its cause, and where the words ask for them those of its counts
abbrev pub last_lines : Wanted → Cause → List Asking → List ℕ
last_lines wanted c asked = if wanted.stats && tells_counts c then last_line c ++ lines_of (attributes_after wanted.cache asked) else last_line c

-- the same with the numbers that were counted
abbrev pub lines_with : Cause → Option Counts → List ℕ
lines_with c None = last_line c
lines_with c (Some n) = last_line c ++ counts_lines n
