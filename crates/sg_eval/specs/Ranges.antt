-- What a loop goes over.
use Rattle.std.specs.Prelude.{ℕ, ◌<◌, pos, ◌+ℤ◌, FitsSigned}
use Rattle.std.specs.Int.{w64}
use Rattle.sg_value.specs.Data.{Items, list}
use Rattle.sg_value.specs.Plain.{Named, Things}
use Rattle.sg_value.specs.declared.limits.TheConstants.{WEIGHT_LIMIT}
use Rattle.sg_rows.specs.Order.{Plain}
use Rattle.sg_rows.specs.Kinds.{as_list}
use Rattle.sg_meaning.specs.Expressions.{ask, listed}
use Rattle.sg_eval.specs.Outcomes.{plain_items, known_items}
use Rattle.sg_meaning.specs.Process.{Process, gives, ◌>>=◌}
use Rattle.sg_meaning.specs.Entries.{integers_from}
use Rattle.sg_meaning.specs.Queries.{spans}
use Rattle.sg_eval.specs.declared.sequence.Range.{Range}
use Rattle.sg_eval.specs.declared.sequence.Sequence.{Sequence}
use Rattle.sg_eval.specs.declared.sequence.Sequence.TheVariants.{Listed, Counted}

-- each integer of a range is in 64 bits, and a list of them is not too heavy
pub record IsRange (r : Range) : Type 0 where
  pub few : r.count < WEIGHT_LIMIT
  pub within : (i : ℕ) → i < r.count → FitsSigned w64 (r.first +ℤ pos i)

-- a range as the list of its integers, which no store is asked for
abbrev pub list_of_range : Named → Range → Plain
list_of_range names r = list (integers_from r.first r.count)

abbrev pub is_range : Named → Range → Type 0
is_range names r = IsRange r

-- the entries, as plain values, and that each is known or in 64 bits
abbrev pub entries_in : Named → Sequence → Items Things
entries_in names (Listed ds) = plain_items names ds
entries_in names (Counted r) = integers_from r.first r.count

abbrev pub are_known : Named → Sequence → Type 0
are_known names (Listed ds) = known_items names ds
are_known names (Counted r) = IsRange r

-- the entries of the list of the integers from the first to the second
abbrev pub ranged : Plain → Plain → Process (Items Things)
ranged a b = ask (spans a b) >>= (λ d. listed (as_list d) (λ ds. gives ds))
