-- How values and lengths of vectors add up.
use Rattle.std.proofs.Common.{◌≡◌, ℕ, zero, suc, ◌+◌, ◌<◌, List, [], ◌∷◌, length, get_or, replicate, set, refl, sym, ap, arith}
use Rattle.sg_defs.specs.Vectors.{value_of, plus}

-- a sum has as many places
pub length-plus : (x y : List ℕ) → length x ≡ length y → length (plus x y) ≡ length x
length-plus [] y h = refl
length-plus (a ∷ x) [] h = sym h
length-plus (a ∷ x) (b ∷ y) h = let k : length x ≡ length y = omega arith in ap suc (length-plus x y k)

-- its value is the sum of the values
pub value_of-plus : (g x y : List ℕ) → length x ≡ length g → length y ≡ length g → value_of g (plus x y) ≡ value_of g x + value_of g y
value_of-plus [] x y h k = refl
value_of-plus (a ∷ g) [] y h k = absurd (omega arith)
value_of-plus (a ∷ g) (b ∷ x) [] h k = absurd (omega arith)
value_of-plus (a ∷ g) (b ∷ x) (c ∷ y) h k =
    let p : length x ≡ length g = omega arith in
    let q : length y ≡ length g = omega arith in
    omega (arith, value_of-plus g x y p q)

-- the zero vector has value 0
pub value_of-zeros : (g : List ℕ) (k : ℕ) → value_of g (replicate k 0) ≡ 0
value_of-zeros [] k = refl
value_of-zeros (a ∷ g) zero = refl
value_of-zeros (a ∷ g) (suc k) = omega (arith, value_of-zeros g k)

-- one more at a place adds that entry
pub value_of-set : (g z : List ℕ) (i : ℕ) → i < length g → length z ≡ length g → value_of g (set z i (get_or z i 0 + 1)) ≡ value_of g z + get_or g i 0
value_of-set [] z i h k = absurd (omega arith)
value_of-set (a ∷ g) [] i h k = absurd (omega arith)
value_of-set (a ∷ g) (c ∷ z) zero h k = omega arith
value_of-set (a ∷ g) (c ∷ z) (suc i) h k =
    let p : i < length g = omega arith in
    let q : length z ≡ length g = omega arith in
    omega (arith, value_of-set g z i p q)
