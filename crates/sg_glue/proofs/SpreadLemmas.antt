-- Vectors of a part, spread over the places of the whole list.
use Rattle.std.proofs.Common.{◌≡◌, ℕ, suc, ◌+◌, ◌*◌, Bool, true, false, List, [], ◌∷◌, length, refl, sym, ap, ◌∙◌, arith}
use Rattle.sg_defs.specs.Vectors.{value_of, plus}
use Rattle.sg_defs.proofs.VectorLemmas.{value_of-plus}

-- the entries at the places of one part
abbrev pub taken : List Bool → List ℕ → List ℕ
taken [] xs = []
taken (b ∷ bs) [] = []
taken (true ∷ bs) (x ∷ xs) = x ∷ taken bs xs
taken (false ∷ bs) (x ∷ xs) = taken bs xs

-- the places of the other part
abbrev pub flipped : List Bool → List Bool
flipped [] = []
flipped (true ∷ bs) = false ∷ flipped bs
flipped (false ∷ bs) = true ∷ flipped bs

-- a vector of the part at its places, zeros at the others
abbrev pub spread : List Bool → List ℕ → List ℕ
spread [] vs = []
spread (true ∷ bs) [] = 0 ∷ spread bs []
spread (true ∷ bs) (v ∷ vs) = v ∷ spread bs vs
spread (false ∷ bs) vs = 0 ∷ spread bs vs

-- two vectors, one of each part
abbrev pub woven : List Bool → List ℕ → List ℕ → List ℕ
woven bs xs ys = plus (spread bs xs) (spread (flipped bs) ys)

pub length-flipped : (bs : List Bool) → length (flipped bs) ≡ length bs
length-flipped [] = refl
length-flipped (true ∷ bs) = ap suc (length-flipped bs)
length-flipped (false ∷ bs) = ap suc (length-flipped bs)

pub length-spread : (bs : List Bool) (vs : List ℕ) → length (spread bs vs) ≡ length bs
length-spread [] vs = refl
length-spread (true ∷ bs) [] = ap suc (length-spread bs [])
length-spread (true ∷ bs) (v ∷ vs) = ap suc (length-spread bs vs)
length-spread (false ∷ bs) vs = ap suc (length-spread bs vs)

pub length-taken : (bs : List Bool) (xs ys : List ℕ) → length xs ≡ length ys → length (taken bs xs) ≡ length (taken bs ys)
length-taken [] xs ys l = refl
length-taken (b ∷ bs) [] [] l = refl
length-taken (b ∷ bs) [] (y ∷ ys) l = absurd (omega (arith, l))
length-taken (b ∷ bs) (x ∷ xs) [] l = absurd (omega (arith, l))
length-taken (true ∷ bs) (x ∷ xs) (y ∷ ys) l = ap suc (length-taken bs xs ys (omega (arith, l)))
length-taken (false ∷ bs) (x ∷ xs) (y ∷ ys) l = length-taken bs xs ys (omega (arith, l))

pub value-spread : (bs : List Bool) (G vs : List ℕ) → length G ≡ length bs → length vs ≡ length (taken bs G) → value_of G (spread bs vs) ≡ value_of (taken bs G) vs
value-spread [] [] vs l m = refl
value-spread [] (g ∷ G) vs l m = absurd (omega (arith, l))
value-spread (b ∷ bs) [] vs l m = absurd (omega (arith, l))
value-spread (true ∷ bs) (g ∷ G) [] l m = absurd (omega (arith, m))
value-spread (true ∷ bs) (g ∷ G) (v ∷ vs) l m = ap (λ n. v * g + n) (value-spread bs G vs (omega (arith, l)) (omega (arith, m)))
value-spread (false ∷ bs) (g ∷ G) vs l m = omega (arith, value-spread bs G vs (omega (arith, l)) m)

-- each vector is woven of what stands at the places of both parts
pub woven-taken : (bs : List Bool) (xs : List ℕ) → length xs ≡ length bs → woven bs (taken bs xs) (taken (flipped bs) xs) ≡ xs
woven-taken [] [] l = refl
woven-taken [] (x ∷ xs) l = absurd (omega (arith, l))
woven-taken (b ∷ bs) [] l = absurd (omega (arith, l))
woven-taken (true ∷ bs) (x ∷ xs) l = ap (λ n. n ∷ woven bs (taken bs xs) (taken (flipped bs) xs)) (let e : x + 0 ≡ x = omega arith in e) ∙ ap (λ r. x ∷ r) (woven-taken bs xs (omega (arith, l)))
woven-taken (false ∷ bs) (x ∷ xs) l = ap (λ n. n ∷ woven bs (taken bs xs) (taken (flipped bs) xs)) (let e : 0 + x ≡ x = omega arith in e) ∙ ap (λ r. x ∷ r) (woven-taken bs xs (omega (arith, l)))

-- the value is that of both
pub value-woven : (bs : List Bool) (G xs ys : List ℕ) → length G ≡ length bs → length xs ≡ length (taken bs G) → length ys ≡ length (taken (flipped bs) G)
    → value_of G (woven bs xs ys) ≡ value_of (taken bs G) xs + value_of (taken (flipped bs) G) ys
value-woven bs G xs ys l m n = omega (
  arith,
  value_of-plus G (spread bs xs) (spread (flipped bs) ys) (length-spread bs xs ∙ sym l) (length-spread (flipped bs) ys ∙ length-flipped bs ∙ sym l),
  value-spread bs G xs l m,
  value-spread (flipped bs) G ys (l ∙ sym (length-flipped bs)) n,
)

-- a sum woven with a vector is the one summand spread, and the rest
pub woven-left : (bs : List Bool) (us xs ys : List ℕ) → length us ≡ length xs → woven bs (plus us xs) ys ≡ plus (spread bs us) (woven bs xs ys)
woven-left [] us xs ys l = refl
woven-left (true ∷ bs) [] [] ys l = ap (λ r. 0 ∷ r) (woven-left bs [] [] ys refl)
woven-left (true ∷ bs) [] (x ∷ xs) ys l = absurd (omega (arith, l))
woven-left (true ∷ bs) (u ∷ us) [] ys l = absurd (omega (arith, l))
woven-left (true ∷ bs) (u ∷ us) (x ∷ xs) ys l = ap (λ n. n ∷ woven bs (plus us xs) ys) (let e : u + x + 0 ≡ u + (x + 0) = omega arith in e) ∙ ap (λ r. (u + (x + 0)) ∷ r) (woven-left bs us xs ys (omega (arith, l)))
woven-left (false ∷ bs) us xs [] l = ap (λ r. 0 ∷ r) (woven-left bs us xs [] l)
woven-left (false ∷ bs) us xs (y ∷ ys) l = ap (λ n. n ∷ woven bs (plus us xs) ys) (let e : 0 + y ≡ 0 + (0 + y) = omega arith in e) ∙ ap (λ r. (0 + (0 + y)) ∷ r) (woven-left bs us xs ys l)

pub woven-right : (bs : List Bool) (xs us ys : List ℕ) → length us ≡ length ys → woven bs xs (plus us ys) ≡ plus (spread (flipped bs) us) (woven bs xs ys)
woven-right [] xs us ys l = refl
woven-right (false ∷ bs) xs [] [] l = ap (λ r. 0 ∷ r) (woven-right bs xs [] [] refl)
woven-right (false ∷ bs) xs [] (y ∷ ys) l = absurd (omega (arith, l))
woven-right (false ∷ bs) xs (u ∷ us) [] l = absurd (omega (arith, l))
woven-right (false ∷ bs) xs (u ∷ us) (y ∷ ys) l = ap (λ n. n ∷ woven bs xs (plus us ys)) (let e : 0 + (u + y) ≡ u + (0 + y) = omega arith in e) ∙ ap (λ r. (u + (0 + y)) ∷ r) (woven-right bs xs us ys (omega (arith, l)))
woven-right (true ∷ bs) [] us ys l = ap (λ r. 0 ∷ r) (woven-right bs [] us ys l)
woven-right (true ∷ bs) (x ∷ xs) us ys l = ap (λ n. n ∷ woven bs xs (plus us ys)) (let e : x + 0 ≡ 0 + (x + 0) = omega arith in e) ∙ ap (λ r. (0 + (x + 0)) ∷ r) (woven-right bs xs us ys l)
