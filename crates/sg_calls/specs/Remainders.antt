-- Remainders.
use Rattle.std.specs.Prelude.{◌≡◌, ℕ, ℤ, pos, ◌-ℤ◌, ◌≤ℤ◌, ◌<ℤ◌, ◌*◌, unsigned_abs}

-- r is the remainder of a by b: from 0 on, below b without its sign, and a multiple of b away from a
pub record IsRemainder (a b r : ℤ) : Type 0 where
  pub from : pos 0 ≤ℤ r
  pub below : r <ℤ pos (unsigned_abs b)
  pub multiple : (q : ℕ) × (unsigned_abs (a -ℤ r) ≡ unsigned_abs b * q)
