-- A command with an arrow, entry by entry.
use Rattle.std.specs.Prelude.{Bool, true, false, not, pos, Option, Some, None, ◌∷◌, if◌then◌else◌}
use Rattle.sg_value.specs.Plain.{Things}
use Rattle.sg_value.specs.Data.{Data, int, truth, text, list, ratio, fail, semigroup, ideal, Items, none, item, Kind, join}
use Rattle.sg_tree.specs.Tree.{Argument, plain as plain_argument, arrow}
use Rattle.sg_rows.specs.declared.fault.Fault.TheVariants.{WrongType}
use Rattle.sg_rows.specs.Kinds.{as_list}
use Rattle.sg_rows.specs.Order.{Plain}
use Rattle.sg_rows.specs.Entries.{entry_count}
use Rattle.sg_calls.specs.declared.command.Folding.{Folding}
use Rattle.sg_calls.specs.declared.command.Folding.TheVariants.{EachValue, ThoseTrue, AllTrue, AnyTrue, CountTrue}
use Rattle.sg_meaning.specs.Expressions.{eval, folded, decided, listed, ask}
use Rattle.sg_meaning.specs.Process.{Process, gives, refuses, ◌>>=◌}
use Rattle.sg_meaning.specs.Queries.{lists}
use Rattle.sg_meaning.specs.Vars.{Vars}

-- whether the value is the truth value true
abbrev pub is_true : {H : Kind → Type 0} → Data H → Bool
is_true (truth b) = b
is_true (int z) = false
is_true (text bs) = false
is_true (list ds) = false
is_true (ratio p q) = false
is_true fail = false
is_true (semigroup h) = false
is_true (ideal h) = false

-- whether the entries after one, of which the arrow gave this value, are looked at
abbrev pub goes_on : Folding → Plain → Process Bool
goes_on EachValue v = gives true
goes_on ThoseTrue v = decided v (λ b. gives true)
goes_on AllTrue v = decided v (λ b. gives b)
goes_on AnyTrue v = decided v (λ b. gives (not b))
goes_on CountTrue v = decided v (λ b. gives true)

-- what is gathered at an entry, of which the arrow gave this value
abbrev pub gathered_at : {H : Kind → Type 0} → Folding → Data H → Data H → Items H
gathered_at EachValue d v = item v none
gathered_at ThoseTrue d v = if is_true v then item d none else none
gathered_at AllTrue d v = none
gathered_at AnyTrue d v = none
gathered_at CountTrue d v = if is_true v then item v none else none

-- the answer, once all entries were looked at or not
abbrev pub finished : Folding → Bool → Items Things → Process Plain
finished EachValue all ds = ask (lists ds)
finished ThoseTrue all ds = ask (lists ds)
finished AllTrue all ds = gives (truth all)
finished AnyTrue all ds = gives (truth (not all))
finished CountTrue all ds = gives (int (pos (entry_count ds)))

-- the entries that are left, after what was gathered
abbrev pub fold_on : Folding → (Plain → Process Plain) → Items Things → Items Things → Process Plain
fold_on fold f ds none = finished fold true ds
fold_on fold f ds (item e es) = f e >>= (λ v. goes_on fold v >>= (λ b. if b then fold_on fold f (join ds (gathered_at fold e v)) es else finished fold false ds))

-- the entries of a value that may be missing, or it is refused
abbrev pub listed_if : {A : Type 0} → Option Plain → (Items Things → Process A) → Process A
listed_if None f = refuses WrongType
listed_if (Some d) f = listed (as_list d) f

-- the second argument of such a command, after the value of the first
abbrev pub fold_rest : Vars → Folding → Argument → Option Plain → Process Plain
fold_rest env fold (plain_argument u) o = eval env u >>= (λ e. refuses WrongType)
fold_rest env fold (arrow x body) o = listed_if o (folded fold (λ e. eval ((x, e) ∷ env) body))
