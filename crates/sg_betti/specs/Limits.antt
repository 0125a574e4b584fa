-- Which semigroups have their minimal presentation written out.
use Rattle.std.specs.Prelude.{ℕ, ◌≤◌, List}
use Rattle.sg_classes.specs.Fit.{IsNarrow, IsSpan}
use Rattle.sg_betti.specs.declared.limits.TheConstants.{PRESENTATION_SPAN_LIMIT}

-- there are few generators, and the span is within the limit
pub record IsPresentable (G : List ℕ) : Type 0 where
  pub narrow : IsNarrow G
  pub span : ℕ
  pub is_span : IsSpan G span
  pub short : span ≤ PRESENTATION_SPAN_LIMIT
