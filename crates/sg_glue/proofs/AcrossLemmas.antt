-- Why a gluing's presentation is glued from those of its parts: two pairs of vectors with one value are joined, as what the
-- one part loses the other gains, by multiples of the least common multiple of the divisors.
use Rattle.std.proofs.Common.{◌≡◌, ℕ, zero, suc, ◌+◌, ◌-◌, ◌*◌, ◌/◌, ◌<◌, ◌≤◌, List, length, refl, sym, ap, subst, ◌∙◌, inl, inr, arith}
use Rattle.std.specs.Int.{◌∣◌, IsGcd}
use Rattle.std.proofs.lemmas.Bool.{cases_lt}
use Rattle.std.proofs.Math.Nat.{mul_comm, mul_assoc, eq_of_mul-eq-mul_left, mul-div_cancel', dvd-mul_right}
use Rattle.sg_defs.specs.Membership.{IsFactorization}
use Rattle.sg_defs.specs.Vectors.{value_of, plus}
use Rattle.sg_defs.proofs.MembershipLemmas.{member-add, member-times}
use Rattle.sg_defs.proofs.VectorLemmas.{length-plus, value_of-plus}
use Rattle.sg_laws_families.proofs.GcdLemmas.{divides-other}

factorization-plus : (A : List ℕ) (a b : ℕ) (x y : List ℕ) → IsFactorization A a x → IsFactorization A b y → IsFactorization A (a + b) (plus x y)
factorization-plus A a b x y f g = record {
  places = length-plus x y (f.places ∙ sym g.places) ∙ f.places;
  value = omega (arith, value_of-plus A x y f.places g.places, f.value, g.value);
}

-- the two parts divided by their divisors d and e; a pair of vectors makes one vector, and T joins such vectors
module _ (A B : List ℕ) (d e : ℕ) (pair : List ℕ → List ℕ → List ℕ) (T : List ℕ → List ℕ → Type 0)
    (then : (x y z : List ℕ) → T x y → T y z → T x z) (back : (x y : List ℕ) → T x y → T y x)
    (left : (n : ℕ) (x y c : List ℕ) → IsFactorization A n x → IsFactorization A n y → length c ≡ length B → T (pair x c) (pair y c))
    (right : (n : ℕ) (x y c : List ℕ) → IsFactorization B n x → IsFactorization B n y → length c ≡ length A → T (pair c x) (pair c y))
    (u v : List ℕ) (fu : IsFactorization A e u) (fv : IsFactorization B d v)
    (across : (x y : List ℕ) → length x ≡ length A → length y ≡ length B → T (pair (plus u x) y) (pair x (plus v y))) where
  down : (k a b : ℕ) (x y z w : List ℕ) → IsFactorization A (k * e + a) x → IsFactorization B b y → IsFactorization A a z → IsFactorization B (k * d + b) w → T (pair x y) (pair z w)
  down zero a b x y z w f g h i = then (pair x y) (pair z y) (pair z w) (left a x z y (subst (λ n. IsFactorization A n x) (let same : 0 * e + a ≡ a = omega arith in same) f) h g.places)
      (right b y w z g (subst (λ n. IsFactorization B n w) (let same : 0 * d + b ≡ b = omega arith in same) i) h.places)
  down (suc k) a b x y z w f g h i =
      let m = member-add A (k * e) a (member-times A k e (u, fu)) (z, h) in
      let more : IsFactorization A (suc k * e + a) (plus u m.0) = subst (λ n. IsFactorization A n (plus u m.0)) (omega arith) (factorization-plus A e (k * e + a) u m.0 fu m.1) in
      let gain : IsFactorization B (d + b) (plus v y) = factorization-plus B d b v y fv g in
      let rest : IsFactorization B (k * d + (d + b)) w = subst (λ n. IsFactorization B n w) (omega arith) i in
      then (pair x y) (pair (plus u m.0) y) (pair z w) (left (suc k * e + a) x (plus u m.0) y f more g.places)
      (then (pair (plus u m.0) y) (pair m.0 (plus v y)) (pair z w) (across m.0 y m.1.places g.places) (down k a (d + b) m.0 (plus v y) z w m.1 gain h rest))

  -- what the first part has more is a multiple of the divisor of the other
  apart : (a b s t : ℕ) → IsGcd e d 1 → 0 < e → s ≤ a → d * a + e * b ≡ d * s + e * t → (k : ℕ) × (a ≡ k * e + s) × (t ≡ k * d + b)
  apart a b s t coprime some more same =
      let p : d * (a - s) + d * s ≡ d * a = sym (mul-add d (a - s) s) ∙ ap (λ n. d * n) (omega (arith, more)) in
      let q : e * b + d * (a - s) ≡ e * t = omega (arith, p, same) in
      let lower : b ≤ t = at-most e b t some (omega (arith, q)) in
      let r : e * (t - b) + e * b ≡ e * t = sym (mul-add e (t - b) b) ∙ ap (λ n. e * n) (omega (arith, lower)) in
      let over : e * (t - b) ≡ d * (a - s) = omega (arith, q, r) in
      let divides : e ∣ (a - s) = divides-other e d (a - s) coprime (subst (λ n. e ∣ n) over (dvd-mul_right e (t - b))) in
      let k = (a - s) / e in
      let times : a - s ≡ e * k = sym (mul-div_cancel' e divides) in
      let there : t - b ≡ d * k = eq_of_mul-eq-mul_left e some (t - b) (d * k)
      (over ∙ ap (λ n. d * n) times ∙ sym (mul_assoc d e k) ∙ ap (λ n. n * k) (mul_comm d e) ∙ mul_assoc e d k) in
      (k, omega (arith, more, times, mul_comm k e), omega (arith, lower, there, mul_comm k d))
    where
      mul-add : (c x y : ℕ) → c * (x + y) ≡ c * x + c * y
      mul-add zero x y = omega arith
      mul-add (suc c) x y = omega (arith, mul-add c x y)

      at-most : (c x y : ℕ) → 0 < c → c * x ≤ c * y → x ≤ y
      at-most c x y some l = elim (cases_lt y x) [
        | inl less ↦ absurd (
            let f : c * (x - y) + c * y ≡ c * x = sym (mul-add c (x - y) y) ∙ ap (λ n. c * n) (omega (arith, less)) in
            let z : 0 < c * (x - y) = positive c (x - y) some (omega (arith, less)) in
            omega (arith, f, z, l))
        | inr not ↦ omega (arith, not)
      ]
        where
          positive : (c n : ℕ) → 0 < c → 0 < n → 0 < c * n
          positive zero n p q = absurd (omega (arith, p))
          positive (suc c) n p q = omega (arith, q)

  -- so two pairs with one value are joined
  pub pairs-joined : (x y z w : List ℕ) → IsGcd e d 1 → 0 < e → length x ≡ length A → length y ≡ length B → length z ≡ length A → length w ≡ length B
      → d * value_of A x + e * value_of B y ≡ d * value_of A z + e * value_of B w → T (pair x y) (pair z w)
  pairs-joined x y z w coprime some p q r s same = elim (cases_lt (value_of A x) (value_of A z)) [
    | inr not ↦
        let k = apart (value_of A x) (value_of B y) (value_of A z) (value_of B w) coprime some (omega (arith, not)) same in
        down k.0 (value_of A z) (value_of B y) x y z w (record { places = p; value = k.1 }) (record { places = q; value = refl }) (record { places = r; value = refl }) (record { places = s; value = k.2 })
    | inl less ↦
        let k = apart (value_of A z) (value_of B w) (value_of A x) (value_of B y) coprime some (omega (arith, less)) (sym same) in
        back (pair z w) (pair x y) (down k.0 (value_of A x) (value_of B w) z w x y (record { places = r; value = k.1 }) (record { places = s; value = refl }) (record { places = p; value = refl }) (record { places = q; value = k.2 }))
  ]
