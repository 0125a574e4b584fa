-- Products of integers over sums, and squares.
use Rattle.std.proofs.Common.{◌≡◌, ℕ, zero, suc, ◌+◌, ◌*◌, ◌<◌, ℤ, pos, negsuc, ◌+ℤ◌, ◌*ℤ◌, ◌<ℤ◌, refl, ap, inl, inr, arith}
use Rattle.std.specs.Prelude.{◌⊎◌, ◌≢◌}
use Rattle.std.proofs.lemmas.Bool.{cases_eq}
use Rattle.std.proofs.lemmas.Int.{ints}
use borrow.Author.Differences.{up, down, same_in, same_out, sum_is_lem, product_is}

pub times-sum : (a b c : ℤ) → a *ℤ (b +ℤ c) ≡ a *ℤ b +ℤ a *ℤ c
times-sum a b c =
    let s = sum_is_lem b c in
    let e : up a * (up (b +ℤ c) + down b + down c) ≡ up a * (down (b +ℤ c) + up b + up c) = ap (λ n. up a * n) s in
    let f : down a * (up (b +ℤ c) + down b + down c) ≡ down a * (down (b +ℤ c) + up b + up c) = ap (λ n. down a * n) s in
    same_in (a *ℤ (b +ℤ c)) (a *ℤ b +ℤ a *ℤ c)
    (omega (arith, e, f, product_is a (b +ℤ c), product_is a b, product_is a c, sum_is_lem (a *ℤ b) (a *ℤ c)))

pub sum-times : (m n : ℕ) (x : ℤ) → pos (m + n) *ℤ x ≡ pos m *ℤ x +ℤ pos n *ℤ x
sum-times m n x =
    same_in (pos (m + n) *ℤ x) (pos m *ℤ x +ℤ pos n *ℤ x)
    (omega (arith, product_is (pos (m + n)) x, product_is (pos m) x, product_is (pos n) x, sum_is_lem (pos m *ℤ x) (pos n *ℤ x)))

-- a factor in the second place may stand before both
pub times-natural : (a : ℤ) (n : ℕ) (b : ℤ) → a *ℤ (pos n *ℤ b) ≡ pos n *ℤ (a *ℤ b)
times-natural a n b =
    let p = product_is (pos n) b in
    let q = product_is a b in
    let e : up a * up (pos n *ℤ b) ≡ up a * (n * up b + 0 * down b) = ap (λ k. up a * k) p.0 in
    let f : down a * down (pos n *ℤ b) ≡ down a * (n * down b + 0 * up b) = ap (λ k. down a * k) p.1 in
    let g : up a * down (pos n *ℤ b) ≡ up a * (n * down b + 0 * up b) = ap (λ k. up a * k) p.1 in
    let h : down a * up (pos n *ℤ b) ≡ down a * (n * up b + 0 * down b) = ap (λ k. down a * k) p.0 in
    let i : n * up (a *ℤ b) ≡ n * (up a * up b + down a * down b) = ap (λ k. n * k) q.0 in
    let j : n * down (a *ℤ b) ≡ n * (up a * down b + down a * up b) = ap (λ k. n * k) q.1 in
    same_in (a *ℤ (pos n *ℤ b)) (pos n *ℤ (a *ℤ b))
    (omega (arith, e, f, g, h, i, j, product_is a (pos n *ℤ b), product_is (pos n) (a *ℤ b)))

-- zero, or a square above 0
pub square-cases : (x : ℤ) → (x ≡ pos 0) ⊎ (pos 0 <ℤ (x *ℤ x))
square-cases (pos zero) = inl refl
square-cases (pos (suc n)) = inr (let e : 0 < suc n * suc n = omega arith in omega (arith, ints, e))
square-cases (negsuc n) = inr (let e : 0 < suc n * suc n = omega arith in omega (arith, ints, e))

pub integers-decided : (x y : ℤ) → (x ≡ y) ⊎ (x ≢ y)
integers-decided (pos a) (pos b) = elim (cases_eq a b) [
  | inl e ↦ inl (ap pos e)
  | inr apart ↦ inr (λ e. apart (same_out (pos a) (pos b) e).0)
]
integers-decided (pos a) (negsuc b) = inr (λ e. omega (arith, (same_out (pos a) (negsuc b) e).1))
integers-decided (negsuc a) (pos b) = inr (λ e. omega (arith, (same_out (negsuc a) (pos b) e).1))
integers-decided (negsuc a) (negsuc b) = elim (cases_eq a b) [
  | inl e ↦ inl (ap negsuc e)
  | inr apart ↦ inr (λ e. let d = (same_out (negsuc a) (negsuc b) e).1 in apart (omega (arith, d)))
]
