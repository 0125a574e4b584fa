-- The value of a vector lies between the least and the greatest generator times its length.
use Rattle.std.proofs.Common.{◌≡◌, ℕ, zero, suc, ◌*◌, ◌<◌, ◌≤◌, List, [], ◌∷◌, length, get_or, replicate, set, sum, ap, ◌∙◌, arith}
use Rattle.std.proofs.lemmas.List.{length-replicate, length-set}
use Rattle.std.proofs.lemmas.List.Sums.{sum_by-cons, sum_by-set}
use Rattle.std.proofs.Math.Nat.{mul-le-mul_left}
use Rattle.sg_defs.specs.Vectors.{value_of}
use Rattle.sg_defs.proofs.VectorLemmas.{value_of-zeros}
use Rattle.sg_nonunique.proofs.SumLemmas.{get_or-zeros, sum-zeros}

-- no generator is below f
pub value-at_least : (G z : List ℕ) (f : ℕ) → length z ≡ length G → ((k : ℕ) → k < length G → f ≤ get_or G k 0) → f * sum z ≤ value_of G z
value-at_least [] [] f e h = omega arith
value-at_least [] (c ∷ z) f e h = absurd (omega arith)
value-at_least (g ∷ G) [] f e h = absurd (omega arith)
value-at_least (g ∷ G) (c ∷ z) f e h =
    let places : length z ≡ length G = omega arith in
    let rest = value-at_least G z f places (λ k l. h (suc k) (omega arith)) in
    let first : c * f ≤ c * g = mul-le-mul_left c (h 0 (omega arith)) in
    omega (arith, rest, first, ap (λ s. f * s) (sum_by-cons (λ n. n) c z))

-- no generator is above f
pub value-at_most : (G z : List ℕ) (f : ℕ) → length z ≡ length G → ((k : ℕ) → k < length G → get_or G k 0 ≤ f) → value_of G z ≤ f * sum z
value-at_most [] [] f e h = omega arith
value-at_most [] (c ∷ z) f e h = absurd (omega arith)
value-at_most (g ∷ G) [] f e h = absurd (omega arith)
value-at_most (g ∷ G) (c ∷ z) f e h =
    let places : length z ≡ length G = omega arith in
    let rest = value-at_most G z f places (λ k l. h (suc k) (omega arith)) in
    let first : c * g ≤ c * f = mul-le-mul_left c (h 0 (omega arith)) in
    omega (arith, rest, first, ap (λ s. f * s) (sum_by-cons (λ n. n) c z))

-- c at place j, and 0 elsewhere
abbrev pub single : ℕ → ℕ → ℕ → List ℕ
single k j c = set (replicate k 0) j c

pub length-single : (k j c : ℕ) → length (single k j c) ≡ k
length-single k j c = length-set (replicate k 0) j c ∙ length-replicate k 0

pub value_of-single : (G : List ℕ) (j c : ℕ) → j < length G → value_of G (single (length G) j c) ≡ c * get_or G j 0
value_of-single [] j c h = absurd (omega arith)
value_of-single (g ∷ G) zero c h = omega (arith, value_of-zeros G (length G))
value_of-single (g ∷ G) (suc j) c h =
    let p : j < length G = omega arith in
    omega (arith, value_of-single G j c p)

-- its length
pub sum-single : (k j c : ℕ) → j < k → sum (single k j c) ≡ c
sum-single k j c h =
    let inside : j < length (replicate {A = ℕ} k 0) = omega (arith, length-replicate {A = ℕ} k 0) in
    omega (arith, sum_by-set (λ n. n) (replicate k 0) j c 0 inside, get_or-zeros k j, sum-zeros k)
