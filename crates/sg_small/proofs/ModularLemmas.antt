-- The members of a modular or proportionally modular semigroup.
use Rattle.std.proofs.Common.{◌≡◌, ℕ, ◌+◌, ◌*◌, ◌%◌, ◌<◌, ◌≤◌, ◌↔◌, ap, arith}
use Rattle.std.proofs.lemmas.Nat.{mod_below, mul-mod_first}
use Rattle.std.proofs.Math.Nat.{mod-le, mul-le-mul_right}
use Rattle.sg_classes.proofs.ResidueLemmas.{residue-sum, zero-residue}
use Rattle.sg_small.specs.Sets.{IsClosedSet}
use Rattle.sg_small.specs.Modular.{IsModular, IsProportional}

-- the remainder of a sum is at most the sum of the remainders
remainder-sum : (m n b : ℕ) → (m + n) % b ≤ m % b + n % b
remainder-sum m n b = omega (arith, residue-sum m n b, mod-le (m % b + n % b) b)

pub proportional-sums : (a b c : ℕ) → IsClosedSet (IsProportional a b c)
proportional-sums a b c x y p q =
    let e : a * (x + y) ≡ a * x + a * y = omega arith in
    let f = ap (λ n. n % b) e in
    omega (arith, f, remainder-sum (a * x) (a * y) b, p, q)

pub proportional-zero : (a b c : ℕ) → 0 < b → IsProportional a b c 0
proportional-zero a b c l =
    let e : a * 0 ≡ 0 = omega arith in
    let f = ap (λ n. n % b) e in
    omega (arith, f, zero-residue b l)

pub proportional-above : (a b c x : ℕ) → 0 < b → 0 < c → b ≤ x → IsProportional a b c x
proportional-above a b c x l m past =
    let one : 1 ≤ c = omega arith in
    let p : 1 * x ≤ c * x = mul-le-mul_right x one in
    omega (arith, mod_below (a * x) b l, p)

-- a may be reduced modulo b
pub proportional-reduced : (a b c x : ℕ) → IsProportional (a % b) b c x ↔ IsProportional a b c x
proportional-reduced a b c x =
    let e = mul-mod_first a x b in
    ((λ p. omega (arith, e, p)), (λ p. omega (arith, e, p)))

pub modular-proportional : (a b x : ℕ) → IsModular a b x ↔ IsProportional a b 1 x
modular-proportional a b x = ((λ p. omega (arith, p)), (λ p. omega (arith, p)))
