-- The rows that `clap` keeps of what was said.
use Rattle.std.proofs.Common.{◌≡◌, ◌∙◌, refl, sym, ap, Bool, true, false, ◌||◌, ◌&&◌, cond, List, [], ◌∷◌, ◌++◌, map, Some, None, codes, bytes_eq, append-nil, true≢false}
use Rattle.clap.specs.Walk.{Row, at_row, has_row, more_values, with_values, without, used}
use Rattle.clap.specs.Faults.{use_fault}
use Rattle.clap.specs.Kinds.{Kinds, or_else}
use Rattle.clap.specs.declared.parser.matches.ValueSource.TheVariants.{CommandLine}
use Rattle.clap.specs.declared.builder.value_parser.Reading.TheVariants as reading
use Rattle.clap.specs.declared.error.kind.ErrorKind.TheVariants as kind
use Rattle.clap.proofs.WalkLemmas.{list_any-map}
use Rattle.sg_words.specs.Words.{Name, Said, Text, budget, cache, drill, file, is_said, keep_going, spelled, stats}
use Rattle.sg_words.proofs.Rules.{rule_for}

pub both_false : (a b : Bool) → (a || b) ≡ false → (a ≡ false) × (b ≡ false)
both_false true b e = absurd (true≢false e)
both_false false b e = (refl, e)

-- the texts under an id that no row has
pub at_fresh_row : (id : Text) (change : Row → List Row) (missing rows : List Row) → has_row id rows ≡ false → at_row id change missing rows ≡ rows ++ missing
at_fresh_row id change missing [] e = refl
at_fresh_row id change missing (r ∷ rs) e =
    let parts = both_false (bytes_eq r.id id) (has_row id rs) e in
    rw parts.0 (ap (λ rest. r ∷ rest) (at_fresh_row id change missing rs parts.1))

abbrev pub is_flag : Text → Bool
is_flag name = bytes_eq name (codes "stats") || bytes_eq name (codes "keep-going")

-- the value that a row has of a name: a flag's is `true`
abbrev pub value_for : Text → Text → Text
value_for name text = cond (is_flag name) (codes "true") text

abbrev pub new_row : Text → Text → Row
new_row name text = record { id = name; values = value_for name text ∷ []; count = None; source = Some CommandLine; reading = reading.AsWritten }

abbrev pub row_for : Name × Text → Row
row_for p = new_row (spelled p.0) p.1

abbrev pub rows_for : Said → List Row
rows_for said = map row_for said

pub has_row_for : (n : Name) (said : Said) → has_row (spelled n) (rows_for said) ≡ is_said n said
has_row_for n said = sym (list_any-map (λ (r : Row). bytes_eq r.id (spelled n)) row_for said)

-- the values that `clap` gets with a use
abbrev pub given : Name → Text → List Text
given stats text = []
given keep_going text = []
given budget text = text ∷ []
given cache text = text ∷ []
given drill text = text ∷ []
given file text = text ∷ []

-- a use is refused exactly where the name was there before
abbrev pub use_faults : Bool → Kinds
use_faults true = kind.ArgumentConflict ∷ []
use_faults false = []

use_computes : (b : Bool) → or_else (cond (b && true) (kind.ArgumentConflict ∷ []) []) [] ≡ use_faults b
use_computes true = refl
use_computes false = refl

pub use_is : (n : Name) (text : Text) (rows : List Row) → use_fault false (rule_for n) (given n text) rows ≡ use_faults (has_row (spelled n) rows)
use_is budget text rows = use_computes (has_row (spelled budget) rows)
use_is cache text rows = use_computes (has_row (spelled cache) rows)
use_is stats text rows = use_computes (has_row (spelled stats) rows)
use_is keep_going text rows = use_computes (has_row (spelled keep_going) rows)
use_is drill text rows = use_computes (has_row (spelled drill) rows)
use_is file text rows = use_computes (has_row (spelled file) rows)

-- a first use puts a row at the end
abbrev pub put : Text → Text → List Row → List Row
put name text rows = with_values name reading.AsWritten CommandLine (value_for name text ∷ []) (without name rows)

pub used_is : (n : Name) (text : Text) (rows : List Row) → used (rule_for n) (given n text) rows ≡ put (spelled n) text rows
used_is budget text rows = refl
used_is cache text rows = refl
used_is stats text rows = refl
used_is keep_going text rows = refl
used_is drill text rows = refl
used_is file text rows = refl

pub put_fresh : (name text : Text) (rows : List Row) → has_row name rows ≡ false → put name text rows ≡ rows ++ new_row name text ∷ []
put_fresh name text rows e =
    let kept : without name rows ≡ rows = at_fresh_row name (λ _. []) [] rows e ∙ append-nil rows in
    ap (with_values name reading.AsWritten CommandLine (value_for name text ∷ [])) kept ∙ at_fresh_row name (more_values CommandLine (value_for name text ∷ [])) (new_row name text ∷ []) rows e

pub map_more : (said : Said) (p : Name × Text) → rows_for said ++ row_for p ∷ [] ≡ rows_for (said ++ p ∷ [])
map_more [] p = refl
map_more (q ∷ said) p = ap (λ rest. row_for q ∷ rest) (map_more said p)

-- a use of what was not said before
pub used_new : (n : Name) (text : Text) (said : Said) → is_said n said ≡ false → used (rule_for n) (given n text) (rows_for said) ≡ rows_for (said ++ (n, text) ∷ [])
used_new n text said e = used_is n text (rows_for said) ∙ put_fresh (spelled n) text (rows_for said) (has_row_for n said ∙ e) ∙ map_more said (n, text)

pub use_new : (n : Name) (text : Text) (said : Said) → is_said n said ≡ false → use_fault false (rule_for n) (given n text) (rows_for said) ≡ []
use_new n text said e = use_is n text (rows_for said) ∙ ap use_faults (has_row_for n said ∙ e)

pub use_again : (n : Name) (text : Text) (said : Said) → is_said n said ≡ true → use_fault false (rule_for n) (given n text) (rows_for said) ≡ kind.ArgumentConflict ∷ []
use_again n text said e = use_is n text (rows_for said) ∙ ap use_faults (has_row_for n said ∙ e)
