-- A semigroup is not both short and wide.
use Rattle.std.proofs.Common.{ℕ, List, arith}
use Rattle.sg_laws_invariants.proofs.SpansExist.{span-one}
use Rattle.sg_lawful.specs.Spans.{IsWide, IsShort}
use Rattle.sg_rows.specs.Order.{Plain, Passes}
use Rattle.sg_rows.specs.Limits.{spanned}

short-not_wide : (G : List ℕ) → IsShort G → IsWide G → ⊥
short-not_wide G a b = let e = span-one G a.0 b.0 a.1 b.1 in omega (arith, e, a.2, b.2)

-- a row that refuses nothing but a span past the limit refuses no short one
pub spanned_pass : (G : List ℕ) (P : Plain → Type 0) → IsShort G → Passes (spanned G P)
spanned_pass G P short = record { size = λ n. n; bad = λ n. n; limit = short-not_wide G short; many = λ n. n; budget = λ n. n }
