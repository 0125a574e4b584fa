-- Integers without their signs.
use Rattle.std.proofs.Common.{◌≡◌, ◌<◌, ◌↔◌, ℕ, ℤ, pos, negsuc, nat_abs, List, length, get_or, ap, sym, subst, ◌∙◌, arith}
use Rattle.std.specs.Prelude.{◌≤ℤ◌, ◌<ℤ◌, All, Contains, EachIndex, slice_index}
use Rattle.std.proofs.lemmas.Int.{ints}
use Rattle.std.proofs.lemmas.List.{length-map, get_or_default}
use Rattle.std.proofs.Math.ListN.{get_or-map}
use Rattle.sg_rows_constructors.specs.Integers.{naturals, AreNatural, ArePositive}

-- a natural is its absolute value
natural_is : (z : ℤ) (n : ℕ) → pos 0 ≤ℤ z → nat_abs z ≡ n → z ≡ pos n
natural_is (pos m) n h e = ap pos e
natural_is (negsuc m) n h e = absurd (omega (arith, ints, h))

pub as_long : (zs : List ℤ) → length (naturals zs) ≡ length zs
as_long zs = length-map zs nat_abs

pub positive_natural : (zs : List ℤ) → ArePositive zs → AreNatural zs
positive_natural zs positive k d l = let h : pos 1 ≤ℤ get_or zs k d = positive k d l in omega (arith, ints, h)

module _ (zs : List ℤ) (natural : AreNatural zs) (n : ℕ) where
  -- a natural is an entry exactly where it is one of these
  pub contains_natural : Contains zs (pos n) ↔ Contains (naturals zs) n
  contains_natural = (
    (λ h. (h.0, subst (λ m. h.0 < m) (sym (as_long zs)) h.1, get_or-map nat_abs zs h.0 (pos n) ∙ ap nat_abs h.2)),
    (λ h.
        let l = subst (λ m. h.0 < m) (as_long zs) h.1 in
        (h.0, l, natural_is (get_or zs h.0 (pos n)) n (natural h.0 (pos n) l) (sym (get_or-map nat_abs zs h.0 (pos n)) ∙ h.2))),
  )

  below_abs : (z : ℤ) → pos 0 ≤ℤ z → (z <ℤ pos n) ↔ (nat_abs z < n)
  below_abs (pos m) h = ((λ l. omega (arith, ints, l)), (λ l. omega (arith, ints, l)))
  below_abs (negsuc m) h = absurd (omega (arith, ints, h))

  -- and is above each entry exactly where it is above each of these
  pub above_natural : All (λ z. z <ℤ pos n) zs ↔ EachIndex (naturals zs) (λ k. slice_index (naturals zs) k < n)
  above_natural = (
    (λ h k l.
        let m = subst (λ i. k < i) (as_long zs) l in
        subst (λ x. x < n) (sym (get_or-map nat_abs zs k (pos 0))) ((below_abs (get_or zs k (pos 0)) (natural k (pos 0) m)).0 (h k (pos 0) m))),
    (λ h k d m.
        let l = subst (λ i. k < i) (sym (as_long zs)) m in
        let same : get_or zs k (pos 0) ≡ get_or zs k d = get_or_default zs k (pos 0) d m in
        subst (λ z. z <ℤ pos n) same ((below_abs (get_or zs k (pos 0)) (natural k (pos 0) m)).1 (subst (λ x. x < n) (get_or-map nat_abs zs k (pos 0)) (h k l)))),
  )
