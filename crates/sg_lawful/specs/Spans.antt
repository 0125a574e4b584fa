-- Semigroups small enough for lists of their members, gaps and covers.
use Rattle.std.specs.Prelude.{ℕ, ◌<◌, ◌≤◌, List}
use Rattle.sg_classes.specs.Fit.{IsSpan}
use Rattle.sg_classes.specs.declared.limits.TheConstants.{SPAN_LIMIT}

-- the Frobenius number, the multiplicity and the greatest generator together are within the limit
abbrev pub IsShort : List ℕ → Type 0
IsShort G = (s : ℕ) × IsSpan G s × (s ≤ SPAN_LIMIT)

-- they pass it
abbrev pub IsWide : List ℕ → Type 0
IsWide G = (s : ℕ) × IsSpan G s × (SPAN_LIMIT < s)
