-- How far omega primality is found.
use Rattle.std.specs.Prelude.{ℕ, ◌+◌, ◌≤◌, List}
use Rattle.sg_classes.specs.Fit.{IsSpan}
use Rattle.sg_omega.specs.declared.limits.TheConstants.{OMEGA_LIMIT}

-- n and the span together are within the limit
abbrev pub IsWithinLimit : List ℕ → ℕ → Type 0
IsWithinLimit G n = (s : ℕ) × IsSpan G s × (n + s ≤ OMEGA_LIMIT)
