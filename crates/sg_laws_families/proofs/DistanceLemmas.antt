-- Distances: a common summand does not change them, and vectors that share nothing are as far apart as they are long.
use Rattle.std.proofs.Common.{◌≡◌, ℕ, zero, suc, ◌+◌, ◌-◌, ◌<◌, ◌≤◌, List, [], ◌∷◌, length, sum, min, max, refl, ap, ◌∙◌, arith}
use Rattle.std.proofs.lemmas.List.Sums.{sum_by-cons}
use Rattle.sg_defs.specs.Vectors.{minus, meet, distance}
use Rattle.sg_nonunique.specs.Places.{raise}
use Rattle.sg_nonunique.specs.Classes.{Share}

-- what is left of x without the common part does not change when both are raised
minus-meet-raise : (x y : List ℕ) (i : ℕ) → length x ≡ length y → minus (raise x i) (meet (raise x i) (raise y i)) ≡ minus x (meet x y)
minus-meet-raise [] y i h = refl
minus-meet-raise (a ∷ x) [] i h = absurd (omega arith)
minus-meet-raise (a ∷ x) (b ∷ y) zero h = ap (λ n. n ∷ minus x (meet x y)) (let e : a + 1 - min (a + 1) (b + 1) ≡ a - min a b = omega arith in e)
minus-meet-raise (a ∷ x) (b ∷ y) (suc i) h = ap (λ v. (a - min a b) ∷ v) (minus-meet-raise x y i (omega arith))

minus-meet-raise_right : (x y : List ℕ) (i : ℕ) → length x ≡ length y → minus (raise y i) (meet (raise x i) (raise y i)) ≡ minus y (meet x y)
minus-meet-raise_right [] [] i h = refl
minus-meet-raise_right [] (b ∷ y) i h = absurd (omega arith)
minus-meet-raise_right (a ∷ x) [] i h = absurd (omega arith)
minus-meet-raise_right (a ∷ x) (b ∷ y) zero h = ap (λ n. n ∷ minus y (meet x y)) (let e : b + 1 - min (a + 1) (b + 1) ≡ b - min a b = omega arith in e)
minus-meet-raise_right (a ∷ x) (b ∷ y) (suc i) h = ap (λ v. (b - min a b) ∷ v) (minus-meet-raise_right x y i (omega arith))

-- nor does the distance
pub distance-raise : (x y : List ℕ) (i : ℕ) → length x ≡ length y → distance (raise x i) (raise y i) ≡ distance x y
distance-raise x y i h =
    ap (λ v. max (sum v) (sum (minus (raise y i) (meet (raise x i) (raise y i))))) (minus-meet-raise x y i h)
    ∙ ap (λ v. max (sum (minus x (meet x y))) (sum v)) (minus-meet-raise_right x y i h)

-- what is taken away leaves no more
sum-minus-le : (x y : List ℕ) → sum (minus x y) ≤ sum x
sum-minus-le [] y = omega arith
sum-minus-le (a ∷ x) [] = omega (arith, sum_by-cons (λ n. n) a x)
sum-minus-le (a ∷ x) (b ∷ y) = omega (arith, sum_by-cons (λ n. n) (a - b) (minus x y), sum_by-cons (λ n. n) a x, sum-minus-le x y)

-- no distance is above both lengths
pub distance-le : (x y : List ℕ) (N : ℕ) → sum x ≤ N → sum y ≤ N → distance x y ≤ N
distance-le x y N p q = omega (arith, sum-minus-le x (meet x y), sum-minus-le y (meet x y))

-- vectors that share no place have nothing in common
minus-meet-apart : (x y : List ℕ) → length x ≡ length y → ¬ Share x y → sum (minus x (meet x y)) ≡ sum x
minus-meet-apart [] y e apart = refl
minus-meet-apart (a ∷ x) [] e apart = absurd (omega arith)
minus-meet-apart (a ∷ x) (b ∷ y) e apart =
    let rest = minus-meet-apart x y (omega arith) (λ s. apart (suc s.0, s.1, s.2)) in
    omega (arith, sum_by-cons (λ n. n) (a - min a b) (minus x (meet x y)), sum_by-cons (λ n. n) a x, rest, nothing a b (λ p q. apart (0, p, q)))
  where
    nothing : (a b : ℕ) → (0 < a → 0 < b → ⊥) → a - min a b ≡ a
    nothing zero b h = omega arith
    nothing (suc a) zero h = omega arith
    nothing (suc a) (suc b) h = absurd (h (omega arith) (omega arith))

-- so their distance is at least the length of the first
pub distance-apart : (x y : List ℕ) → length x ≡ length y → ¬ Share x y → sum x ≤ distance x y
distance-apart x y e apart = omega (arith, minus-meet-apart x y e apart)
