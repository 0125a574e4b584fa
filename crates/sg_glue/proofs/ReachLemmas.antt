-- Members of a list whose entries have a common divisor.
use Rattle.std.proofs.Common.{◌≡◌, ℕ, zero, suc, ◌*◌, ◌<◌, ◌≤◌, ◌↔◌, List, [], ◌∷◌, sym, ap, subst, ◌∙◌, arith}
use Rattle.std.specs.Prelude.{All}
use Rattle.std.proofs.Math.Nat.{mul_comm, mul_assoc, eq_of_mul-eq-mul_left}
use Rattle.std.proofs.lemmas.List.Elements.{All-nil, All-cons, All-head, All-tail}
use Rattle.sg_defs.specs.Membership.{IsMember}
use Rattle.sg_defs.specs.Vectors.{scale, value_of}
use Rattle.sg_nonunique.proofs.AffineLemmas.{length-scale}

-- every entry d times as great, the value d times as great
pub value-scaled : (d : ℕ) (xs zs : List ℕ) → value_of (scale d xs) zs ≡ d * value_of xs zs
value-scaled d [] zs = omega arith
value-scaled d (x ∷ xs) [] = omega arith
value-scaled d (x ∷ xs) (z ∷ zs) =
    let e : z * (d * x) ≡ d * (z * x) = sym (mul_assoc z d x) ∙ ap (λ n. n * x) (mul_comm z d) ∙ mul_assoc d z x in
    omega (arith, e, value-scaled d xs zs)

pub reached-scaled : (d : ℕ) (small part : List ℕ) (n : ℕ) → 0 < d → scale d small ≡ part → IsMember small n ↔ IsMember part (n * d)
reached-scaled d small part n some e = subst (λ p. IsMember small n ↔ IsMember p (n * d)) e (
  (λ m. (
    m.0,
    record {
      places = m.1.places ∙ sym (length-scale d small);
      value = value-scaled d small m.0 ∙ ap (λ v. d * v) m.1.value ∙ mul_comm d n;
    },
  )),
  (λ m. (
    m.0,
    record {
      places = m.1.places ∙ length-scale d small;
      value = eq_of_mul-eq-mul_left d some (value_of small m.0) n (sym (value-scaled d small m.0) ∙ m.1.value ∙ mul_comm n d);
    },
  )),
)

-- entries whose multiples are positive are positive
pub scaled-positive : (d : ℕ) (small : List ℕ) → All (λ x. 1 ≤ x) (scale d small) → All (λ x. 1 ≤ x) small
scaled-positive d [] all = All-nil (λ x. 1 ≤ x)
scaled-positive d (x ∷ xs) all = All-cons (λ x. 1 ≤ x) x xs (positive x (All-head (λ x. 1 ≤ x) (d * x) (scale d xs) all)) (scaled-positive d xs (All-tail (λ x. 1 ≤ x) (d * x) (scale d xs) all))
  where
    positive : (x : ℕ) → 1 ≤ d * x → 1 ≤ x
    positive zero l = absurd (omega (arith, l))
    positive (suc x) l = omega arith
