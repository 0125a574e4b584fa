-- Vectors seen place by place, from the first on.
use Rattle.std.proofs.Common.{◌≡◌, ℕ, zero, suc, ◌+◌, ◌-◌, ◌<◌, ◌≤◌, min, List, [], ◌∷◌, ◌++◌, length, get_or, take, sum, refl, sym, ◌∙◌, ap, subst, arith}
use Rattle.std.proofs.lemmas.List.Sums.{sum_by_push, sum_by_more}
use Rattle.sg_defs.specs.Vectors.{meet, minus}

-- one place more of the lesser numbers
meet-take-more : (x y : List ℕ) (n : ℕ) → n < length x → n < length y →
    meet (take (suc n) x) (take (suc n) y) ≡ meet (take n x) (take n y) ++ min (get_or x n 0) (get_or y n 0) ∷ []
meet-take-more [] y n h k = absurd (omega arith)
meet-take-more (a ∷ x) [] n h k = absurd (omega arith)
meet-take-more (a ∷ x) (b ∷ y) zero h k = refl
meet-take-more (a ∷ x) (b ∷ y) (suc n) h k =
    let p : n < length x = omega arith in
    let q : n < length y = omega arith in
    ap (λ l. min a b ∷ l) (meet-take-more x y n p q)

-- one place more of what is above the common part
above-take-more : (x y : List ℕ) (n : ℕ) → n < length x → n < length y →
    minus (take (suc n) x) (meet (take (suc n) x) (take (suc n) y)) ≡ minus (take n x) (meet (take n x) (take n y)) ++ (get_or x n 0 - min (get_or x n 0) (get_or y n 0)) ∷ []
above-take-more [] y n h k = absurd (omega arith)
above-take-more (a ∷ x) [] n h k = absurd (omega arith)
above-take-more (a ∷ x) (b ∷ y) zero h k = refl
above-take-more (a ∷ x) (b ∷ y) (suc n) h k =
    let p : n < length x = omega arith in
    let q : n < length y = omega arith in
    ap (λ l. (a - min a b) ∷ l) (above-take-more x y n p q)

-- the same of a list that is known by equations
pub meet-step : (x y least new : List ℕ) (n k a b m : ℕ) → n < length x → n < length y → a ≡ get_or x n 0 → b ≡ get_or y n 0 → k ≡ suc n →
    m ≡ min a b → least ≡ meet (take n x) (take n y) → new ≡ least ++ m ∷ [] → new ≡ meet (take k x) (take k y)
meet-step x y least new n k a b m h p ea eb ek em e grown =
    let more = meet-take-more x y n h p in
    cc

-- the sum of what is above the common part grows by one place, and stays within the whole
pub excess-step : (x y : List ℕ) (n k a b total : ℕ) → n < length x → n < length y → a ≡ get_or x n 0 → b ≡ get_or y n 0 → k ≡ suc n →
    total ≡ sum (minus (take n x) (meet (take n x) (take n y))) → total ≤ sum (take n x) →
    (total + (a - b) ≡ sum (minus (take k x) (meet (take k x) (take k y)))) × (total + (a - b) ≤ sum (take k x))
excess-step x y n k a b total h p ea eb ek e small =
    let s = minus (take n x) (meet (take n x) (take n y)) in
    let d = get_or x n 0 - min (get_or x n 0) (get_or y n 0) in
    let same : d ≡ a - b = omega arith in
    let above = ap sum (above-take-more x y n h p) ∙ sum_by_push (λ z. z) s d in
    let whole : sum (take k x) ≡ sum (take n x) + get_or x n 0 = subst (λ m. sum (take m x) ≡ sum (take n x) + get_or x n 0) (let q : n + 1 ≡ k = omega arith in q) (sum_by_more (λ z. z) x n 0 h) in
    (subst (λ m. total + (a - b) ≡ sum (minus (take m x) (meet (take m x) (take m y)))) (sym ek) (omega (arith, above, e, same)), omega arith)

-- the lesser numbers do not depend on the order
pub meet-comm : (x y : List ℕ) → length x ≡ length y → meet x y ≡ meet y x
meet-comm [] [] h = refl
meet-comm [] (b ∷ y) h = absurd (omega arith)
meet-comm (a ∷ x) [] h = absurd (omega arith)
meet-comm (a ∷ x) (b ∷ y) h =
    let p : length x ≡ length y = omega arith in
    let e : min a b ≡ min b a = omega arith in
    subst (λ c. c ∷ meet x y ≡ min b a ∷ meet y x) (sym e) (ap (λ l. min b a ∷ l) (meet-comm x y p))
