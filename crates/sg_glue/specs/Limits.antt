-- Which semigroups have their gluings written out.
use Rattle.std.specs.Prelude.{ℕ, ◌≤◌, List, length}
use Rattle.sg_classes.specs.Fit.{IsSpan}
use Rattle.sg_glue.specs.declared.limits.TheConstants.{GLUING_GENERATORS, GLUING_SPAN_LIMIT}

-- so few minimal generators, and so small a span
pub record IsGluable (G : List ℕ) : Type 0 where
  pub generators : length G ≤ GLUING_GENERATORS
  pub span : ℕ
  pub is_span : IsSpan G span
  pub short : span ≤ GLUING_SPAN_LIMIT
