-- The quotient of the greatest and the least generator is the elasticity.
use Rattle.std.proofs.Common.{◌≡◌, ℕ, zero, suc, ◌-◌, ◌*◌, ◌/◌, ◌<◌, ◌≤◌, List, length, get_or, sum, ap, subst, arith}
use Rattle.std.specs.Int.{◌∣◌, IsGcd}
use Rattle.std.specs.List.Sorted.{IsStrictlyIncreasing}
use Rattle.std.proofs.lemmas.Nat.Gcd.{IsGcd-swap}
use Rattle.std.proofs.Math.Nat.{mul-div_cancel', dvd_of_mul-dvd-mul_left, mul-dvd-mul_left, pos_of_dvd_of_pos, one-dvd, le_of_mul-le-mul_left, mul-pos, mul_comm}
use Rattle.sg_defs.specs.Membership.{IsFactorization, IsNumericalSemigroup}
use Rattle.sg_defs.proofs.MinimalLemmas.{first-least}
use Rattle.sg_nonunique.specs.Elasticity.{IsElasticity}
use Rattle.sg_factor.proofs.AscendingLemmas.{ascends-le}
use Rattle.sg_factor.proofs.BoundLemmas.{value-at_least, value-at_most, single, length-single, value_of-single, sum-single}

-- divided by their greatest common divisor two numbers have none but 1
gcd-quotients : (a b g : ℕ) → 0 < g → IsGcd a b g → IsGcd (a / g) (b / g) 1
gcd-quotients a b g some is =
    let ea : g * (a / g) ≡ a = mul-div_cancel' g is.0 in
    let eb : g * (b / g) ≡ b = mul-div_cancel' g is.1 in (
      one-dvd (a / g),
      one-dvd (b / g),
      λ d p q.
          let u : g * d ∣ a = subst (λ n. g * d ∣ n) ea (mul-dvd-mul_left d g p) in
          let v : g * d ∣ b = subst (λ n. g * d ∣ n) eb (mul-dvd-mul_left d g q) in
          let w : g * d ∣ g * 1 = subst (λ n. g * d ∣ n) (let e : g ≡ g * 1 = omega arith in e) (is.2 (g * d) u v) in
          dvd_of_mul-dvd-mul_left d some w,
    )

-- no entry is above the last
last-greatest : (G : List ℕ) → IsStrictlyIncreasing G → (k : ℕ) → k < length G → get_or G k 0 ≤ get_or G (length G - 1) 0
last-greatest G up k l = ascends-le G up k (length G - 1) (omega arith) (omega arith)

-- a factor of a positive product is positive
factor-positive : (g a : ℕ) → 0 < g * a → 0 < a
factor-positive g zero h = absurd (omega arith)
factor-positive g (suc a) h = omega arith

module _ (G : List ℕ) (s : IsNumericalSemigroup G) (up : IsStrictlyIncreasing G) (g : ℕ) (is : IsGcd (get_or G 0 0) (get_or G (length G - 1) 0) g) where
  -- the least generator is positive, and so is the divisor
  pub divisor-positive : 0 < g
  divisor-positive = pos_of_dvd_of_pos is.0 (omega (arith, s.positive 0 0 s.not_empty))

  quotient-positive : 0 < get_or G 0 0 / g
  quotient-positive =
      let e : g * (get_or G 0 0 / g) ≡ get_or G 0 0 = mul-div_cancel' g is.0 in
      factor-positive g (get_or G 0 0 / g) (let p : 0 < g * (get_or G 0 0 / g) = omega (arith, s.positive 0 0 s.not_empty, e) in p)

  -- two lengths of one element
  lengths-bound : (n : ℕ) (x y : List ℕ) → IsFactorization G n x → IsFactorization G n y → get_or G 0 0 * sum x ≤ get_or G (length G - 1) 0 * sum y
  lengths-bound n x y p q =
      omega (arith, value-at_least G x (get_or G 0 0) p.places (first-least G up), value-at_most G y (get_or G (length G - 1) 0) q.places (last-greatest G up), p.value, q.value)

  -- the product of both has a factorization by the first alone, and one by the last alone
  at-place : (j c : ℕ) → j < length G → IsFactorization G (c * get_or G j 0) (single (length G) j c)
  at-place j c h = record { places = length-single (length G) j c; value = value_of-single G j c h }

  pub is_elasticity : IsElasticity G (get_or G (length G - 1) 0 / g) (get_or G 0 0 / g)
  is_elasticity =
      let f = get_or G 0 0 in
      let l = get_or G (length G - 1) 0 in
      let a = f / g in
      let b = l / g in
      let ef : g * a ≡ f = mul-div_cancel' g is.0 in
      let el : g * b ≡ l = mul-div_cancel' g is.1 in
      let some : 1 ≤ f = s.positive 0 0 s.not_empty in
      let more : f ≤ l = last-greatest G up 0 s.not_empty in
      let end : length G - 1 < length G = omega (arith, s.not_empty) in
      record {
        positive = quotient-positive;
        lowest = gcd-quotients l f g divisor-positive (IsGcd-swap f l g is);
        bound = λ n x y _ p q.
            let h : f * sum x ≤ l * sum y = lengths-bound n x y p q in
            let m : g * (a * sum x) ≤ g * (b * sum y) = omega (arith, h, ap (λ t. t * sum x) ef, ap (λ t. t * sum y) el) in
            le_of_mul-le-mul_left m divisor-positive;
        reached = (
          l * f,
          mul-pos (let p : 0 < l = omega arith in p) (let p : 0 < f = omega arith in p),
          single (length G) 0 l,
          single (length G) (length G - 1) f,
          at-place 0 l s.not_empty,
          subst (λ n. IsFactorization G n (single (length G) (length G - 1) f)) (mul_comm f l) (at-place (length G - 1) f end),
          omega (
            arith,
            ap (λ t. a * t) (sum-single (length G) 0 l s.not_empty),
            ap (λ t. b * t) (sum-single (length G) (length G - 1) f end),
            ap (λ t. t * b) ef,
            ap (λ t. t * a) el,
          ),
        );
      }
