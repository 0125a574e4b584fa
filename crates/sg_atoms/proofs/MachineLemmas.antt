-- The sums of products as the program makes them: nothing leaves 64 bits.
use Rattle.std.proofs.Common.{◌≡◌, ℕ, zero, suc, ◌+◌, ◌*◌, ◌<◌, ◌≤◌, ◌^◌, ℤ, pos, ◌+ℤ◌, ◌*ℤ◌, List, [], ◌∷◌, length, get_or, take, sum, unsigned_abs, sym, ap, subst, ◌∙◌, arith}
use Rattle.std.proofs.lemmas.List.{length-take-le}
use Rattle.std.proofs.lemmas.List.Elements.{All-take}
use Rattle.std.proofs.lemmas.List.Sums.{sum_by-cons, sum_by-take-le}
use Rattle.std.proofs.lemmas.Int.{to_z-of_z, to_z_pos, fits_signed_from_abs, unsigned_abs-mul}
use native.Mathlib.Nat.{mul-le-mul, mul-le-mul_right}
use mir.Syntax.{w64}
use mir.Val.{SFits, to_z, of_z}
use Rattle.sg_nonunique.specs.Equations.{inner_product}
use Rattle.sg_atoms.specs.Matrices.{AreWithin, weighted}
use Rattle.sg_atoms.proofs.ProductLemmas.{inner-take_more, weighted-take_more, inner-bound, weighted-bound}

-- what a number is after it went to its bits
there_and_back : (z : ℤ) → unsigned_abs z < 2 ^ 63 → to_z w64 (of_z w64 z) ≡ z
there_and_back z h = to_z-of_z w64 z (fits_signed_from_abs w64 z h)

sum-known : (t m s : ℤ) → unsigned_abs m < 2 ^ 63 → t +ℤ m ≡ s → unsigned_abs s < 2 ^ 63 →
    SFits w64 (t +ℤ to_z w64 (of_z w64 m)) × (to_z w64 (of_z w64 (t +ℤ to_z w64 (of_z w64 m))) ≡ s)
sum-known t m s small e short =
    let f : t +ℤ to_z w64 (of_z w64 m) ≡ s = ap (λ u. t +ℤ u) (there_and_back m small) ∙ e in
    (subst (SFits w64) (sym f) (fits_signed_from_abs w64 s short), ap (λ u. to_z w64 (of_z w64 u)) f ∙ there_and_back s short)

-- ---- products of columns

product-same : (a b : ℤ) → unsigned_abs a ≤ 65535 → unsigned_abs b ≤ 65535 → to_z w64 (of_z w64 a) *ℤ to_z w64 (of_z w64 b) ≡ a *ℤ b
product-same a b h k = ap (λ u. u *ℤ to_z w64 (of_z w64 b)) (there_and_back a (omega (arith, h))) ∙ ap (λ u. a *ℤ u) (there_and_back b (omega (arith, k)))

product-small : (a b : ℤ) → unsigned_abs a ≤ 65535 → unsigned_abs b ≤ 65535 → unsigned_abs (a *ℤ b) < 2 ^ 63
product-small a b h k =
    let m : unsigned_abs a * unsigned_abs b ≤ 65535 * 65535 = mul-le-mul h k in
    omega (arith, m, unsigned_abs-mul a b)

pub product-fits : (a b : ℤ) → unsigned_abs a ≤ 65535 → unsigned_abs b ≤ 65535 → SFits w64 (to_z w64 (of_z w64 a) *ℤ to_z w64 (of_z w64 b))
product-fits a b h k = subst (SFits w64) (sym (product-same a b h k)) (fits_signed_from_abs w64 (a *ℤ b) (product-small a b h k))

pub product-step : (x y : List ℤ) (n : ℕ) (t : ℤ) → length x ≡ length y → length x ≤ 8 → AreWithin 65535 x → AreWithin 65535 y → n < length x →
    t ≡ inner_product (take n x) (take n y) →
    let a = to_z w64 (of_z w64 (get_or x n (pos 0))) in
    let b = to_z w64 (of_z w64 (get_or y n (pos 0))) in
    SFits w64 (t +ℤ to_z w64 (of_z w64 (a *ℤ b))) × (to_z w64 (of_z w64 (t +ℤ to_z w64 (of_z w64 (a *ℤ b)))) ≡ inner_product (take (n + 1) x) (take (n + 1) y))
product-step x y n t long short h k inside so_far =
    let a = get_or x n (pos 0) in
    let b = get_or y n (pos 0) in
    let ha : unsigned_abs a ≤ 65535 = h n (pos 0) inside in
    let hb : unsigned_abs b ≤ 65535 = k n (pos 0) (omega (arith, inside, long)) in
    let same = product-same a b ha hb in
    let whole = inner-take_more x y n inside (omega (arith, inside, long)) in
    let bound = inner-bound 65535 (take (n + 1) x) (take (n + 1) y) (All-take (λ z. unsigned_abs z ≤ 65535) (n + 1) x h) (All-take (λ z. unsigned_abs z ≤ 65535) (n + 1) y k) in
    let few : length (take (n + 1) x) ≤ 8 = omega (arith, length-take-le (n + 1) x (omega (arith, inside)), inside, short) in
    let many : length (take (n + 1) x) * (65535 * 65535) ≤ 8 * (65535 * 65535) = mul-le-mul_right (65535 * 65535) few in
    sum-known t (to_z w64 (of_z w64 a) *ℤ to_z w64 (of_z w64 b)) (inner_product (take (n + 1) x) (take (n + 1) y))
    (subst (λ z. unsigned_abs z < 2 ^ 63) (sym same) (product-small a b ha hb))
    (ap (λ u. u +ℤ to_z w64 (of_z w64 a) *ℤ to_z w64 (of_z w64 b)) so_far ∙ ap (λ u. inner_product (take n x) (take n y) +ℤ u) same ∙ sym whole)
    (omega (arith, bound, many))

-- ---- weights

pub entry-within : (p : List ℕ) (n : ℕ) → get_or p n 0 ≤ sum p
entry-within [] n = omega arith
entry-within (a ∷ p) zero = omega (arith, sum_by-cons (λ z. z) a p)
entry-within (a ∷ p) (suc n) = omega (arith, sum_by-cons (λ z. z) a p, entry-within p n)

weight-same : (n : ℕ) (a : ℤ) → n ≤ 1048576 → unsigned_abs a ≤ 34359738368 → to_z w64 n *ℤ to_z w64 (of_z w64 a) ≡ pos n *ℤ a
weight-same n a h k = ap (λ u. u *ℤ to_z w64 (of_z w64 a)) (to_z_pos w64 n (omega (arith, h))) ∙ ap (λ u. pos n *ℤ u) (there_and_back a (omega (arith, k)))

weight-small : (n : ℕ) (a : ℤ) → n ≤ 1048576 → unsigned_abs a ≤ 34359738368 → unsigned_abs (pos n *ℤ a) < 2 ^ 63
weight-small n a h k =
    let m : n * unsigned_abs a ≤ 1048576 * 34359738368 = mul-le-mul h k in
    omega (arith, m, unsigned_abs-mul (pos n) a)

pub weight-fits : (n : ℕ) (a : ℤ) → n ≤ 1048576 → unsigned_abs a ≤ 34359738368 → SFits w64 (to_z w64 n *ℤ to_z w64 (of_z w64 a))
weight-fits n a h k = subst (SFits w64) (sym (weight-same n a h k)) (fits_signed_from_abs w64 (pos n *ℤ a) (weight-small n a h k))

pub weight-step : (x : List ℤ) (p : List ℕ) (n : ℕ) (t : ℤ) → length x ≡ length p → sum p ≤ 1048576 → AreWithin 34359738368 x → n < length x →
    t ≡ weighted (take n x) (take n p) →
    let a = to_z w64 (get_or p n 0) in
    let b = to_z w64 (of_z w64 (get_or x n (pos 0))) in
    SFits w64 (t +ℤ to_z w64 (of_z w64 (a *ℤ b))) × (to_z w64 (of_z w64 (t +ℤ to_z w64 (of_z w64 (a *ℤ b)))) ≡ weighted (take (n + 1) x) (take (n + 1) p))
weight-step x p n t long short h inside so_far =
    let a = get_or p n 0 in
    let b = get_or x n (pos 0) in
    let ha : a ≤ 1048576 = omega (arith, short, entry-within p n) in
    let hb : unsigned_abs b ≤ 34359738368 = h n (pos 0) inside in
    let same = weight-same a b ha hb in
    let whole = weighted-take_more x p n inside (omega (arith, inside, long)) in
    let bound = weighted-bound 34359738368 (take (n + 1) x) (take (n + 1) p) (All-take (λ z. unsigned_abs z ≤ 34359738368) (n + 1) x h) in
    let few : sum (take (n + 1) p) ≤ 1048576 = omega (arith, short, sum_by-take-le (λ z. z) p (n + 1)) in
    let many : sum (take (n + 1) p) * 34359738368 ≤ 1048576 * 34359738368 = mul-le-mul_right 34359738368 few in
    sum-known t (to_z w64 a *ℤ to_z w64 (of_z w64 b)) (weighted (take (n + 1) x) (take (n + 1) p))
    (subst (λ z. unsigned_abs z < 2 ^ 63) (sym same) (weight-small a b ha hb))
    (ap (λ u. u +ℤ to_z w64 a *ℤ to_z w64 (of_z w64 b)) so_far ∙ ap (λ u. weighted (take n x) (take n p) +ℤ u) same ∙ sym whole)
    (omega (arith, bound, many))
