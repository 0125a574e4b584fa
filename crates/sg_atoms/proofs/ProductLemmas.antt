-- Sums of products place by place, and how large they are.
use Rattle.std.proofs.Common.{◌≡◌, ℕ, zero, suc, ◌+◌, ◌*◌, ◌<◌, ◌≤◌, ℤ, pos, ◌+ℤ◌, ◌*ℤ◌, replicate, List, [], ◌∷◌, length, get_or, take, sum, unsigned_abs, refl, sym, ap, subst, ◌∙◌, inl, inr, arith}
use Rattle.std.proofs.lemmas.List.Elements.{All-head, All-tail}
use Rattle.std.proofs.lemmas.List.Sums.{sum_by-cons}
use Rattle.std.proofs.lemmas.Int.{ints, unsigned_abs-mul}
use native.Mathlib.Nat.{mul-le-mul, mul-le-mul_left, mul-le-mul_right}
use Rattle.std.proofs.lemmas.List.{get_or-map, get_or_default, length-map}
use borrow.Author.Differences.{same_in, product_is}
use Rattle.sg_nonunique.specs.Equations.{AreColumns, image_of, inner_product, IsSolution}
use Rattle.sg_atoms.specs.Matrices.{AreWithin, IsMatrix, weighted, products_with, products_of}
use Rattle.sg_atoms.proofs.ImageLemmas.{weight_of, inner-image, inner-itself, inner-zeros, length-image}

-- ---- place by place

zero_last : (p : ℤ) → p +ℤ pos 0 ≡ pos 0 +ℤ p
zero_last p = omega (arith, ints)

regrouped : (p q s : ℤ) → p +ℤ (q +ℤ s) ≡ p +ℤ q +ℤ s
regrouped p q s = omega (arith, ints)

inner-take_suc : (x y : List ℤ) (n : ℕ) → n < length x → n < length y →
    inner_product (take (suc n) x) (take (suc n) y) ≡ inner_product (take n x) (take n y) +ℤ get_or x n (pos 0) *ℤ get_or y n (pos 0)
inner-take_suc [] y n h k = absurd (omega arith)
inner-take_suc (a ∷ x) [] n h k = absurd (omega arith)
inner-take_suc (a ∷ x) (b ∷ y) zero h k = zero_last (a *ℤ b)
inner-take_suc (a ∷ x) (b ∷ y) (suc n) h k =
    ap (λ z. a *ℤ b +ℤ z) (inner-take_suc x y n (omega arith) (omega arith))
    ∙ regrouped (a *ℤ b) (inner_product (take n x) (take n y)) (get_or x n (pos 0) *ℤ get_or y n (pos 0))

pub inner-take_more : (x y : List ℤ) (n : ℕ) → n < length x → n < length y →
    inner_product (take (n + 1) x) (take (n + 1) y) ≡ inner_product (take n x) (take n y) +ℤ get_or x n (pos 0) *ℤ get_or y n (pos 0)
inner-take_more x y n h k =
    let e : n + 1 ≡ suc n = omega arith in
    ap (λ m. inner_product (take m x) (take m y)) e ∙ inner-take_suc x y n h k

weighted-take_suc : (x : List ℤ) (p : List ℕ) (n : ℕ) → n < length x → n < length p →
    weighted (take (suc n) x) (take (suc n) p) ≡ weighted (take n x) (take n p) +ℤ pos (get_or p n 0) *ℤ get_or x n (pos 0)
weighted-take_suc [] p n h k = absurd (omega arith)
weighted-take_suc (a ∷ x) [] n h k = absurd (omega arith)
weighted-take_suc (a ∷ x) (m ∷ p) zero h k = zero_last (pos m *ℤ a)
weighted-take_suc (a ∷ x) (m ∷ p) (suc n) h k =
    ap (λ z. pos m *ℤ a +ℤ z) (weighted-take_suc x p n (omega arith) (omega arith))
    ∙ regrouped (pos m *ℤ a) (weighted (take n x) (take n p)) (pos (get_or p n 0) *ℤ get_or x n (pos 0))

pub weighted-take_more : (x : List ℤ) (p : List ℕ) (n : ℕ) → n < length x → n < length p →
    weighted (take (n + 1) x) (take (n + 1) p) ≡ weighted (take n x) (take n p) +ℤ pos (get_or p n 0) *ℤ get_or x n (pos 0)
weighted-take_more x p n h k =
    let e : n + 1 ≡ suc n = omega arith in
    ap (λ m. weighted (take m x) (take m p)) e ∙ weighted-take_suc x p n h k

-- ---- how large

pub abs-plus : (a b : ℤ) → unsigned_abs (a +ℤ b) ≤ unsigned_abs a + unsigned_abs b
abs-plus a b = omega (arith, ints)

pub inner-bound : (m : ℕ) (x y : List ℤ) → AreWithin m x → AreWithin m y → unsigned_abs (inner_product x y) ≤ length x * (m * m)
inner-bound m [] y h k = omega arith
inner-bound m (a ∷ x) [] h k = omega arith
inner-bound m (a ∷ x) (b ∷ y) h k =
    let rest = inner-bound m x y (All-tail (λ z. unsigned_abs z ≤ m) a x h) (All-tail (λ z. unsigned_abs z ≤ m) b y k) in
    let first : unsigned_abs a * unsigned_abs b ≤ m * m = mul-le-mul (All-head (λ z. unsigned_abs z ≤ m) a x h) (All-head (λ z. unsigned_abs z ≤ m) b y k) in
    omega (arith, rest, first, unsigned_abs-mul a b, abs-plus (a *ℤ b) (inner_product x y))

pub weighted-bound : (m : ℕ) (x : List ℤ) (p : List ℕ) → AreWithin m x → unsigned_abs (weighted x p) ≤ sum p * m
weighted-bound m [] p h = omega arith
weighted-bound m (a ∷ x) [] h = omega arith
weighted-bound m (a ∷ x) (n ∷ p) h =
    let rest = weighted-bound m x p (All-tail (λ z. unsigned_abs z ≤ m) a x h) in
    let first : n * unsigned_abs a ≤ n * m = mul-le-mul_left n (All-head (λ z. unsigned_abs z ≤ m) a x h) in
    let total : sum (n ∷ p) * m ≡ (n + sum p) * m = ap (λ k. k * m) (sum_by-cons (λ k. k) n p) in
    omega (arith, rest, first, total, unsigned_abs-mul (pos n) a, abs-plus (pos n *ℤ a) (weighted x p))

-- ---- symmetry

pub times-turned : (a b : ℤ) → a *ℤ b ≡ b *ℤ a
times-turned a b = same_in (a *ℤ b) (b *ℤ a) (omega (arith, product_is a b, product_is b a))

pub inner-turned : (x y : List ℤ) → inner_product x y ≡ inner_product y x
inner-turned [] [] = refl
inner-turned [] (b ∷ y) = refl
inner-turned (a ∷ x) [] = refl
inner-turned (a ∷ x) (b ∷ y) = ap (λ z. z +ℤ inner_product x y) (times-turned a b) ∙ ap (λ z. b *ℤ a +ℤ z) (inner-turned x y)

-- ---- what the products tell of an image

weighted-is : (v : List ℤ) (columns : List (List ℤ)) (p : List ℕ) → weighted (products_with columns v) p ≡ weight_of v columns p
weighted-is v [] p = refl
weighted-is v (c ∷ cs) [] = refl
weighted-is v (c ∷ cs) (n ∷ p) = ap (λ z. pos n *ℤ inner_product v c +ℤ z) (weighted-is v cs p)

-- the product of an image with a vector, by the products with the columns
pub weighted-image : (r : ℕ) (columns : List (List ℤ)) (p : List ℕ) (v : List ℤ) → AreColumns r columns →
    weighted (products_with columns v) p ≡ inner_product (image_of r columns p) v
weighted-image r columns p v h = weighted-is v columns p ∙ sym (inner-image v r columns p h) ∙ inner-turned v (image_of r columns p)

zero-weight : (v : List ℤ) (columns : List (List ℤ)) (p : List ℕ) → ((i : ℕ) → i < length columns → inner_product v (get_or columns i []) ≡ pos 0) → weight_of v columns p ≡ pos 0
zero-weight v [] p h = refl
zero-weight v (c ∷ cs) [] h = refl
zero-weight v (c ∷ cs) (n ∷ p) h =
    by (pos n) (inner_product v c) (weight_of v cs p) (h 0 (omega arith)) (zero-weight v cs p (λ i l. h (suc i) (omega arith)))
  where
    by : (a b s : ℤ) → b ≡ pos 0 → s ≡ pos 0 → a *ℤ b +ℤ s ≡ pos 0
    by a b s e f = ap (λ z. a *ℤ z +ℤ s) e ∙ ap (λ z. a *ℤ pos 0 +ℤ z) f ∙ (let g : a *ℤ pos 0 +ℤ pos 0 ≡ pos 0 = omega (arith, ints) in g)

-- a vector is a solution where the products of its image with all columns are zero
pub solution-from_products : (r : ℕ) (columns : List (List ℤ)) (p : List ℕ) → AreColumns r columns → length p ≡ length columns →
    ((i : ℕ) → i < length columns → inner_product (image_of r columns p) (get_or columns i []) ≡ pos 0) → IsSolution r columns p
solution-from_products r columns p h e zero_ =
    let v = image_of r columns p in
    elim (inner-itself v) [
      | inl none ↦ record { places = e; zero_image = none ∙ ap (λ n. replicate n (pos 0)) (length-image r columns p h) }
      | inr some ↦ absurd (omega (arith, ints, some, inner-image v r columns p h, zero-weight v columns p zero_))
    ]

-- ---- a row of the table of products

module _ (columns : List (List ℤ)) (m : IsMatrix columns) (place : ℕ) (inside : place < length columns) where
  abbrev column : List ℤ
  column = get_or columns place []

  -- what is read at a place
  pub row-is : (table : List (List ℤ)) (row : List ℤ) → table ≡ products_of columns → get_or table place row ≡ row → row ≡ products_with columns column
  row-is table row e at =
      sym at ∙ ap (λ t. get_or t place row) e ∙ get_or_default (products_of columns) place row (products_with columns []) (omega (arith, inside, length-map columns (products_with columns)))
      ∙ get_or-map (products_with columns) columns place [] (products_with columns []) inside

  pub row-long : length (products_with columns column) ≡ length columns
  row-long = length-map columns (inner_product column)

  pub row-small : AreWithin 34359738368 (products_with columns column)
  row-small k d l =
      let there : k < length columns = omega (arith, l, row-long) in
      let same : get_or (products_with columns column) k d ≡ inner_product column (get_or columns k []) =
      get_or_default (products_with columns column) k d (inner_product column []) l ∙ get_or-map (inner_product column) columns k [] (inner_product column []) there in
      let bound = inner-bound 65535 column (get_or columns k []) (m.small place [] inside) (m.small k [] there) in
      let short : length column ≤ 8 = omega (arith, m.shape place [] inside, m.short) in
      let many : length column * (65535 * 65535) ≤ 8 * (65535 * 65535) = mul-le-mul_right (65535 * 65535) short in
      subst (λ z. unsigned_abs z ≤ 34359738368) (sym same) (omega (arith, bound, many))

-- the image of a solution has a product of zero with each column
pub solution-products : (r : ℕ) (columns : List (List ℤ)) (p : List ℕ) (v : List ℤ) → IsSolution r columns p → inner_product (image_of r columns p) v ≡ pos 0
solution-products r columns p v h = inner-turned (image_of r columns p) v ∙ ap (inner_product v) h.zero_image ∙ inner-zeros v r

-- what is read at a place of the table that goes with the columns
pub read-row : (columns kept table slice : List (List ℤ)) (x v : List ℤ) (place : ℕ) → kept ≡ columns → IsMatrix kept → table ≡ products_of kept → slice ≡ table →
    x ≡ get_or slice place x → v ≡ x → place < length columns → v ≡ products_with columns (get_or columns place [])
read-row columns kept table slice x v place same m e f at g inside =
    g ∙ row-is columns (subst IsMatrix same m) place inside slice x (f ∙ e ∙ ap products_of same) (sym at)
