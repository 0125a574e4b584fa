-- Remainders that are not negative.
use Rattle.std.proofs.Common.{◌≡◌, ℕ, zero, suc, ℤ, pos, negsuc, ◌+◌, ◌-◌, ◌*◌, ◌%◌, ◌/◌, ◌<◌, ◌≤◌, refl, ap, sym, ◌∙◌, arith}
use Rattle.std.specs.Prelude.{◌-ℤ◌, unsigned_abs}
use Rattle.std.specs.Int.{int_rem_euclid}
use native.Mathlib.Decide.{dec_le}
use Rattle.std.proofs.lemmas.Int.{ints}
use Rattle.sg_calls.specs.Remainders.{IsRemainder}

positive : (y : ℤ) → (y ≡ pos 0 → ⊥) → 0 < unsigned_abs y
positive (pos zero) h = absurd (h refl)
positive (pos (suc n)) h = omega arith
positive (negsuc n) h = omega arith

size_up : (a r : ℕ) → a < r → unsigned_abs (pos a -ℤ pos r) ≡ r - a
size_up a r h = ap unsigned_abs (let e : (pos a -ℤ pos r) ≡ negsuc (r - a - 1) = omega (arith, ints) in e) ∙ omega arith

-- what is left of a below a multiple
down : (a n : ℕ) → 0 < n → a - a % n ≡ n * (a / n)
down a n h = omega arith

above : (a n : ℕ) → 0 < n → suc a + (n - 1 - a % n) ≡ n * (a / n + 1)
above a n h = omega arith

size_down : (a r : ℕ) → r ≤ a → unsigned_abs (pos a -ℤ pos r) ≡ a - r
size_down a r h = ap unsigned_abs (let e : (pos a -ℤ pos r) ≡ pos (a - r) = omega (arith, ints) in e)

size_above : (a r : ℕ) → unsigned_abs (negsuc a -ℤ pos r) ≡ suc a + r
size_above a r = ap unsigned_abs (let e : (negsuc a -ℤ pos r) ≡ negsuc (a + r) = omega (arith, ints) in e) ∙ omega arith

pub remainder_is : (x y : ℤ) → (y ≡ pos 0 → ⊥) → IsRemainder x y (int_rem_euclid x y)
remainder_is (pos a) y h =
    let n = unsigned_abs y in
    let some : 0 < unsigned_abs y = positive y h in
    record {
      from = omega (arith, ints);
      below = (let low : a % unsigned_abs y < unsigned_abs y = omega arith in omega (arith, ints));
      multiple = (a / n, size_down a (a % n) (omega arith) ∙ down a n some);
    }
remainder_is (negsuc a) y h =
    let n = unsigned_abs y in
    let some : 0 < unsigned_abs y = positive y h in
    record {
      from = omega (arith, ints);
      below = omega (arith, ints);
      multiple = (a / n + 1, size_above a (n - 1 - a % n) ∙ above a n some);
    }

-- a number has one remainder below n
one_below : (n r s q p : ℕ) → r < n → s < n → r + n * q ≡ s + n * p → r ≡ s
one_below n r s zero zero h k e = omega arith
one_below n r s zero (suc p) h k e = absurd (omega arith)
one_below n r s (suc q) zero h k e = absurd (omega arith)
one_below n r s (suc q) (suc p) h k e = one_below n r s q p h k (omega arith)

-- the multiple is below the number
below_number : (a r n q : ℕ) → r < n → unsigned_abs (pos a -ℤ pos r) ≡ n * q → a ≡ r + n * q
below_number a r n q h e = by (dec_le r a)
  where
    by : Dec (r ≤ a) → a ≡ r + n * q
    by (yes le) = let f : a - r ≡ n * q = sym (size_down a r le) ∙ e in omega arith
    by (no gt) = absurd (beyond q (sym (size_up a r (omega arith)) ∙ e))
      where
        beyond : (k : ℕ) → r - a ≡ n * k → ⊥
        beyond zero f = omega arith
        beyond (suc k) f = omega arith

remainder_one_at : (a : ℤ) (n : ℕ) (r s : ℕ) → r < n → s < n → (q : ℕ) → unsigned_abs (a -ℤ pos r) ≡ n * q → (p : ℕ) → unsigned_abs (a -ℤ pos s) ≡ n * p → r ≡ s
remainder_one_at (pos a) n r s h k q e p f = one_below n r s q p h k (sym (below_number a r n q h e) ∙ below_number a s n p k f)
remainder_one_at (negsuc a) n r s h k q e p f =
    let g : suc a + r ≡ n * q = sym (size_above a r) ∙ e in
    let i : suc a + s ≡ n * p = sym (size_above a s) ∙ f in
    sym (one_below n s r q p k h (omega arith))

pub remainder_one : (a b r s : ℤ) → IsRemainder a b r → IsRemainder a b s → r ≡ s
remainder_one a b (pos r) (pos s) h k = ap pos (remainder_one_at a (unsigned_abs b) r s (omega (arith, ints, h.below)) (omega (arith, ints, k.below)) h.multiple.0 h.multiple.1 k.multiple.0 k.multiple.1)
remainder_one a b (negsuc r) s h k = absurd (omega (arith, ints, h.from))
remainder_one a b (pos r) (negsuc s) h k = absurd (omega (arith, ints, k.from))
