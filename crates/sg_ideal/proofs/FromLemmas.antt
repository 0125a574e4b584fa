-- Integers by their distance from a base.
use Rattle.std.proofs.Common.{◌≡◌, ℕ, ◌-◌, ◌≤◌, ◌↔◌, List, refl, sym, subst, arith}
use Rattle.std.specs.Prelude.{ℤ, pos, negsuc, ◌+ℤ◌, ◌-ℤ◌}
use Rattle.std.proofs.lemmas.Int.{ints}
use Rattle.sg_defs.specs.Membership.{AtNatural}
use Rattle.sg_classes.specs.Classes.{IsAboveEntry}
use Rattle.sg_ideal.specs.Classes.{IsFrom}

-- what holds at an integer holds at a natural that it is
pub at-natural : (P : ℕ → Type 0) (x : ℤ) → AtNatural P x → (n : ℕ) × (x ≡ pos n) × P n
at-natural P (pos n) h = (n, refl, h)
at-natural P (negsuc n) h = absurd h

-- and the other way round
pub natural-at : (P : ℕ → Type 0) (x : ℤ) (n : ℕ) → x ≡ pos n → P n → AtNatural P x
natural-at P x n e h = subst (AtNatural P) (sym e) h

-- b is how far g lies above the base
pub from-shift : (g base : ℤ) (b n : ℕ) (t : List ℕ) → pos b ≡ g -ℤ base → IsFrom g t (base +ℤ pos n) ↔ ((b ≤ n) × IsAboveEntry t (n - b))
from-shift g base b n t e = (to, from)
  where
    to : IsFrom g t (base +ℤ pos n) → (b ≤ n) × IsAboveEntry t (n - b)
    to h =
        let k = at-natural (IsAboveEntry t) ((base +ℤ pos n) -ℤ g) h in
        let f = k.1 in
        let same : k.0 ≡ n - b = omega (arith, ints, e, f) in
        (omega (arith, ints, e, f), subst (IsAboveEntry t) same k.2)

    from : (b ≤ n) × IsAboveEntry t (n - b) → IsFrom g t (base +ℤ pos n)
    from h =
        let l = h.0 in
        natural-at (IsAboveEntry t) ((base +ℤ pos n) -ℤ g) (n - b) (omega (arith, ints, e, l)) h.1
