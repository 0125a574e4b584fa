-- Greatest common divisors in sets that are closed under differences.
use Rattle.std.proofs.Common.{◌≡◌, ℕ, zero, suc, ◌+◌, ◌-◌, ◌*◌, ◌≤◌, ap, subst, ◌∙◌, inl, inr, arith}
use Rattle.std.specs.Int.{◌∣◌, IsGcd}
use Rattle.std.proofs.lemmas.Bool.{cases_lt, cases_eq}
use Rattle.std.proofs.lemmas.Nat.Gcd.{IsGcd-from_sub, IsGcd-swap, IsGcd-from_zero, same_from_IsGcd}
use Rattle.std.proofs.Math.Nat.{dvd-sub, dvd-mul_right}

-- a set of numbers that holds each difference of two of its numbers holds their greatest common divisor
module _ (D : ℕ → Type 0) (closed : (a b : ℕ) → b ≤ a → D a → D b → D (a - b)) where
  gcd-within : (fuel a b : ℕ) → a + b ≤ fuel → D a → D b → (g : ℕ) × D g × IsGcd a b g
  gcd-within zero a b l p q = (a, p, IsGcd-from_zero a b (omega arith))
  gcd-within (suc fuel) a b l p q = elim (cases_eq b 0) [
    | inl none ↦ (a, p, IsGcd-from_zero a b none)
    | inr some ↦ elim (cases_lt a b) [
      | inr more ↦
          let r = gcd-within fuel (a - b) b (omega arith) (closed a b more p q) q in
          (r.0, r.1, IsGcd-from_sub a b r.0 more r.2)
      | inl less ↦ elim (cases_eq a 0) [
        | inl empty ↦ (b, q, IsGcd-swap b a b (IsGcd-from_zero b a empty))
        | inr positive ↦
            let r = gcd-within fuel (b - a) a (omega arith) (closed b a (omega arith) q p) p in
            (r.0, r.1, IsGcd-swap b a r.0 (IsGcd-from_sub b a r.0 (omega arith) r.2))
      ]
    ]
  ]

  pub gcd-of_closed : (a b : ℕ) → D a → D b → (g : ℕ) × D g × IsGcd a b g
  gcd-of_closed a b p q = gcd-within (a + b) a b (omega arith) p q

-- Euclid's lemma
pub divides-other : (a b c : ℕ) → IsGcd a b 1 → a ∣ (b * c) → a ∣ c
divides-other a b c h e =
    let r = gcd-of_closed (λ m. a ∣ (m * c)) closed a b (dvd-mul_right a c) e in
    let one : r.0 ≡ 1 = same_from_IsGcd a b r.0 1 r.2 h in
    let f : r.0 * c ≡ c = ap (λ n. n * c) one ∙ (let g : 1 * c ≡ c = omega arith in g) in
    subst (λ n. a ∣ n) f r.1
  where
    closed : (x y : ℕ) → y ≤ x → a ∣ (x * c) → a ∣ (y * c) → a ∣ ((x - y) * c)
    closed x y l p q =
        let f : x ≡ y + (x - y) = omega arith in
        let g : x * c - y * c ≡ (x - y) * c = omega (arith, ap (λ n. n * c) f) in
        subst (λ n. a ∣ n) g (dvd-sub a p q)
