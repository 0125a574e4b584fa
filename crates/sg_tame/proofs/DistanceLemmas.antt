-- What is added to both vectors does not change their distance.
use Rattle.std.proofs.Common.{◌≡◌, ℕ, ◌+◌, ◌-◌, ◌≤◌, List, [], ◌∷◌, length, sum, min, max, refl, ap, ◌∙◌, arith}
use Rattle.std.proofs.lemmas.List.Sums.{sum_by-cons}
use Rattle.sg_defs.specs.Vectors.{plus, minus, meet, distance}

-- what is left of x without the common part does not change when both get d
minus-meet-plus : (x y d : List ℕ) → length x ≡ length d → length y ≡ length d → minus (plus x d) (meet (plus x d) (plus y d)) ≡ minus x (meet x y)
minus-meet-plus [] y d e f = refl
minus-meet-plus (a ∷ x) y [] e f = absurd (omega arith)
minus-meet-plus (a ∷ x) [] (c ∷ d) e f = absurd (omega arith)
minus-meet-plus (a ∷ x) (b ∷ y) (c ∷ d) e f =
    ap (λ n. n ∷ minus (plus x d) (meet (plus x d) (plus y d))) (let s : a + c - min (a + c) (b + c) ≡ a - min a b = omega arith in s)
    ∙ ap (λ v. (a - min a b) ∷ v) (minus-meet-plus x y d (omega arith) (omega arith))

minus-meet-plus_right : (x y d : List ℕ) → length x ≡ length d → length y ≡ length d → minus (plus y d) (meet (plus x d) (plus y d)) ≡ minus y (meet x y)
minus-meet-plus_right [] [] d e f = refl
minus-meet-plus_right [] (b ∷ y) [] e f = absurd (omega arith)
minus-meet-plus_right [] (b ∷ y) (c ∷ d) e f = absurd (omega arith)
minus-meet-plus_right (a ∷ x) y [] e f = absurd (omega arith)
minus-meet-plus_right (a ∷ x) [] (c ∷ d) e f = absurd (omega arith)
minus-meet-plus_right (a ∷ x) (b ∷ y) (c ∷ d) e f =
    ap (λ n. n ∷ minus (plus y d) (meet (plus x d) (plus y d))) (let s : b + c - min (a + c) (b + c) ≡ b - min a b = omega arith in s)
    ∙ ap (λ v. (b - min a b) ∷ v) (minus-meet-plus_right x y d (omega arith) (omega arith))

pub distance-plus : (x y d : List ℕ) → length x ≡ length d → length y ≡ length d → distance (plus x d) (plus y d) ≡ distance x y
distance-plus x y d e f =
    ap (λ v. max (sum v) (sum (minus (plus y d) (meet (plus x d) (plus y d))))) (minus-meet-plus x y d e f)
    ∙ ap (λ v. max (sum (minus x (meet x y))) (sum v)) (minus-meet-plus_right x y d e f)

-- what is taken away leaves no more
sum-minus : (x y : List ℕ) → sum (minus x y) ≤ sum x
sum-minus [] y = omega arith
sum-minus (a ∷ x) [] = omega (arith, sum_by-cons (λ n. n) a x)
sum-minus (a ∷ x) (b ∷ y) = omega (arith, sum_by-cons (λ n. n) (a - b) (minus x y), sum_by-cons (λ n. n) a x, sum-minus x y)

-- no distance is above both lengths
pub distance-within : (x y : List ℕ) (N : ℕ) → sum x ≤ N → sum y ≤ N → distance x y ≤ N
distance-within x y N p q = omega (arith, sum-minus x (meet x y), sum-minus y (meet x y))
