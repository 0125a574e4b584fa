-- Images of vectors, and their inner products with a vector of integers: these add up, and a negative one has a negative part.
use Rattle.std.proofs.Common.{◌≡◌, ℕ, zero, suc, ◌*◌, ◌<◌, ◌≤◌, ℤ, pos, negsuc, ◌+ℤ◌, ◌*ℤ◌, ◌<ℤ◌, ◌≤ℤ◌, List, [], ◌∷◌, length, get_or, replicate, map, refl, sym, ap, subst, ◌∙◌, inl, inr, arith}
use Rattle.std.specs.Prelude.{◌⊎◌}
use Rattle.std.proofs.lemmas.List.{length-replicate, length-map}
use Rattle.std.proofs.lemmas.List.Elements.{All-head, All-tail}
use Rattle.std.proofs.lemmas.Int.{ints, by_lt_z}
use Rattle.sg_defs.specs.Vectors.{plus}
use Rattle.sg_nonunique.specs.Equations.{AreColumns, plus_integers, image_of, inner_product}
use Rattle.sg_atoms.proofs.IntegerLemmas.{times-sum, sum-times, times-natural, square-cases}

-- ---- inner products

pub length-plus_integers : (x y : List ℤ) → length x ≡ length y → length (plus_integers x y) ≡ length x
length-plus_integers [] y h = refl
length-plus_integers (a ∷ x) [] h = absurd (omega arith)
length-plus_integers (a ∷ x) (b ∷ y) h = let k : length x ≡ length y = omega arith in ap suc (length-plus_integers x y k)

pub inner-plus : (v x y : List ℤ) → length x ≡ length y → inner_product v (plus_integers x y) ≡ inner_product v x +ℤ inner_product v y
inner-plus [] x y h = refl
inner-plus (c ∷ v) [] [] h = refl
inner-plus (c ∷ v) [] (b ∷ y) h = absurd (omega arith)
inner-plus (c ∷ v) (a ∷ x) [] h = absurd (omega arith)
inner-plus (c ∷ v) (a ∷ x) (b ∷ y) h =
    let rest = inner-plus v x y (omega arith) in
    let first = times-sum c a b in
    ap (λ z. z +ℤ inner_product v (plus_integers x y)) first ∙ ap (λ z. c *ℤ a +ℤ c *ℤ b +ℤ z) rest ∙
    sums (c *ℤ a) (c *ℤ b) (inner_product v x) (inner_product v y)
  where
    sums : (p q s t : ℤ) → p +ℤ q +ℤ (s +ℤ t) ≡ p +ℤ s +ℤ (q +ℤ t)
    sums p q s t = omega (arith, ints)

pub inner-times : (v : List ℤ) (n : ℕ) (x : List ℤ) → inner_product v (map (λ z. pos n *ℤ z) x) ≡ pos n *ℤ inner_product v x
inner-times [] n x = omega (arith, ints)
inner-times (c ∷ v) n [] = omega (arith, ints)
inner-times (c ∷ v) n (a ∷ x) =
    ap (λ z. z +ℤ inner_product v (map (λ z. pos n *ℤ z) x)) (times-natural c n a)
    ∙ ap (λ z. pos n *ℤ (c *ℤ a) +ℤ z) (inner-times v n x)
    ∙ sym (times-sum (pos n) (c *ℤ a) (inner_product v x))

pub inner-zeros : (v : List ℤ) (r : ℕ) → inner_product v (replicate r (pos 0)) ≡ pos 0
inner-zeros [] r = refl
inner-zeros (c ∷ v) zero = refl
inner-zeros (c ∷ v) (suc r) = omega (arith, ints, inner-zeros v r)

-- the inner product of a vector with itself is above 0, or the vector is zero
pub inner-itself : (v : List ℤ) → (v ≡ replicate (length v) (pos 0)) ⊎ (pos 0 <ℤ inner_product v v)
inner-itself [] = inl refl
inner-itself (c ∷ v) = elim (square-cases c) [
  | inl none ↦ elim (inner-itself v) [
    | inl rest ↦ inl (ap (λ z. z ∷ v) none ∙ ap (λ w. pos 0 ∷ w) rest)
    | inr some ↦ inr (subst (λ z. pos 0 <ℤ (z *ℤ z +ℤ inner_product v v)) (sym none) (omega (arith, ints, some)))
  ]
  | inr some ↦ inr (elim (inner-itself v) [
    | inl rest ↦ let e : inner_product v v ≡ pos 0 = ap (inner_product v) rest ∙ inner-zeros v (length v) in
        later (c *ℤ c) (inner_product v v) some e
    | inr more ↦ both (c *ℤ c) (inner_product v v) some more
  ])
]
  where
    later : (p q : ℤ) → pos 0 <ℤ p → q ≡ pos 0 → pos 0 <ℤ (p +ℤ q)
    later p q h e = omega (arith, ints, h, e)

    both : (p q : ℤ) → pos 0 <ℤ p → pos 0 <ℤ q → pos 0 <ℤ (p +ℤ q)
    both p q h k = omega (arith, ints, h, k)

-- ---- images

pub length-image : (r : ℕ) (columns : List (List ℤ)) (p : List ℕ) → AreColumns r columns → length (image_of r columns p) ≡ r
length-image r [] p h = length-replicate r (pos 0)
length-image r (c ∷ cs) [] h = length-replicate r (pos 0)
length-image r (c ∷ cs) (n ∷ p) h =
    let first : length (map (λ x. pos n *ℤ x) c) ≡ r = length-map c (λ x. pos n *ℤ x) ∙ All-head (λ a. length a ≡ r) c cs h in
    length-plus_integers (map (λ x. pos n *ℤ x) c) (image_of r cs p)
    (first ∙ sym (length-image r cs p (All-tail (λ a. length a ≡ r) c cs h))) ∙ first

-- p1 (v c1) + .. + pk (v ck)
abbrev pub weight_of : List ℤ → List (List ℤ) → List ℕ → ℤ
weight_of v [] p = pos 0
weight_of v (c ∷ cs) [] = pos 0
weight_of v (c ∷ cs) (n ∷ p) = pos n *ℤ inner_product v c +ℤ weight_of v cs p

-- the inner product with an image
pub inner-image : (v : List ℤ) (r : ℕ) (columns : List (List ℤ)) (p : List ℕ) → AreColumns r columns →
    inner_product v (image_of r columns p) ≡ weight_of v columns p
inner-image v r [] p h = inner-zeros v r
inner-image v r (c ∷ cs) [] h = inner-zeros v r
inner-image v r (c ∷ cs) (n ∷ p) h =
    let rest = All-tail (λ a. length a ≡ r) c cs h in
    let first : length (map (λ x. pos n *ℤ x) c) ≡ r = length-map c (λ x. pos n *ℤ x) ∙ All-head (λ a. length a ≡ r) c cs h in
    inner-plus v (map (λ x. pos n *ℤ x) c) (image_of r cs p) (first ∙ sym (length-image r cs p rest))
    ∙ ap (λ z. z +ℤ inner_product v (image_of r cs p)) (inner-times v n c)
    ∙ ap (λ z. pos n *ℤ inner_product v c +ℤ z) (inner-image v r cs p rest)

pub weight-plus : (v : List ℤ) (columns : List (List ℤ)) (p q : List ℕ) → length p ≡ length columns → length q ≡ length columns →
    weight_of v columns (plus p q) ≡ weight_of v columns p +ℤ weight_of v columns q
weight-plus v [] p q e f = refl
weight-plus v (c ∷ cs) [] q e f = absurd (omega arith)
weight-plus v (c ∷ cs) (m ∷ p) [] e f = absurd (omega arith)
weight-plus v (c ∷ cs) (m ∷ p) (n ∷ q) e f =
    let rest = weight-plus v cs p q (omega arith) (omega arith) in
    ap (λ z. z +ℤ weight_of v cs (plus p q)) (sum-times m n (inner_product v c))
    ∙ ap (λ z. pos m *ℤ inner_product v c +ℤ pos n *ℤ inner_product v c +ℤ z) rest
    ∙ sums (pos m *ℤ inner_product v c) (pos n *ℤ inner_product v c) (weight_of v cs p) (weight_of v cs q)
  where
    sums : (p q s t : ℤ) → p +ℤ q +ℤ (s +ℤ t) ≡ p +ℤ s +ℤ (q +ℤ t)
    sums p q s t = omega (arith, ints)

-- a negative weight has a negative part: a place that is positive and whose column has a negative product
pub weight-negative : (v : List ℤ) (columns : List (List ℤ)) (p : List ℕ) → weight_of v columns p <ℤ pos 0 →
    (i : ℕ) × (i < length columns) × (0 < get_or p i 0) × (inner_product v (get_or columns i []) <ℤ pos 0)
weight-negative v [] p h = absurd (omega (arith, ints, h))
weight-negative v (c ∷ cs) [] h = absurd (omega (arith, ints, h))
weight-negative v (c ∷ cs) (zero ∷ p) h =
    let rest = weight-negative v cs p (drop_first (inner_product v c) (weight_of v cs p) h) in
    (suc rest.0, omega (arith, rest.1), rest.2, rest.3)
  where
    drop_first : (a b : ℤ) → (pos 0 *ℤ a +ℤ b) <ℤ pos 0 → b <ℤ pos 0
    drop_first a b h = omega (arith, ints, h)
weight-negative v (c ∷ cs) (suc n ∷ p) h = by_lt_z (inner_product v c) (pos 0)
    (λ negative. (0, omega arith, omega arith, negative))
    (λ more. let rest = weight-negative v cs p (drop_first (inner_product v c) (weight_of v cs p) more h) in
    (suc rest.0, omega (arith, rest.1), rest.2, rest.3))
  where
    drop_first : (a b : ℤ) → pos 0 ≤ℤ a → (pos (suc n) *ℤ a +ℤ b) <ℤ pos 0 → b <ℤ pos 0
    drop_first (pos k) b m h = let e : 0 ≤ suc n * k = omega arith in omega (arith, ints, h, e)
    drop_first (negsuc k) b m h = absurd (omega (arith, ints, m))
