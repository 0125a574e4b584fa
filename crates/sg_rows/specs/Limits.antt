-- Rows of work that grows with a semigroup.
use Rattle.std.specs.Prelude.{ℕ, List}
use Rattle.sg_lawful.specs.Spans.{IsWide}
use Rattle.sg_rows.specs.Order.{Plain, Row}
use Rattle.sg_rows.specs.Values.{answers}

-- a row that refuses nothing but a semigroup with too wide a span
abbrev pub spanned : List ℕ → (Plain → Type 0) → Row
spanned G value = record (answers value) { limit = IsWide G }
