-- Which numbers are sums of natural multiples of some parts.
use Rattle.std.specs.Prelude.{◌≡◌, ℕ, ◌<◌, ◌↔◌, List, length, slice_index_or, Bool, true, false}
use Rattle.sg_defs.specs.Membership.{IsMember}

-- each entry tells whether its place is such a sum
pub record TellsSums (D : List ℕ) (table : List Bool) : Type 0 where
  pub each : (x : ℕ) → x < length table → (slice_index_or table x false ≡ true) ↔ IsMember D x
