-- The listing of all vectors with a value at most v is whole and descends.
use Rattle.std.proofs.Common.{◌≡◌, ◌≢◌, ℕ, zero, suc, ◌+◌, ◌-◌, ◌*◌, ◌/◌, ◌<◌, ◌≤◌, List, [], ◌∷◌, length, get_or, replicate, sum, sym, ap, subst, ◌∙◌, inl, inr, arith}
use Rattle.std.specs.Prelude.{All, AllPairs, Contains}
use Rattle.std.proofs.lemmas.Nat.{le-div}
use Rattle.std.proofs.lemmas.List.{length-replicate}
use Rattle.std.proofs.lemmas.List.Elements.{All-head, All-tail, All-nil}
use Rattle.std.proofs.lemmas.List.Kept.{AllPairs-cons}
use Rattle.std.proofs.lemmas.List.Sums.{sum_by-cons}
use Rattle.std.proofs.Math.Nat.{div-mul-le_self, mul-le-mul_left, mul-le-mul_right}
use Rattle.sg_defs.specs.Vectors.{minus, scale, ListsDescending}
use Rattle.sg_defs.proofs.ListLemmas.{contains-cases}
use Rattle.sg_nonunique.specs.Affine.{vector_value_of}
use Rattle.sg_nonunique.specs.Costs.{IsPartial}
use Rattle.sg_nonunique.proofs.SumLemmas.{get_or-zeros, length-minus, get_or-minus, zero_or_positive}
use Rattle.sg_nonunique.proofs.AffineLemmas.{length-scale, get_or-scale, length-vector_value, value-cons}
use Rattle.sg_laws_finite.specs.Listing.{copies, all_partial}
use Rattle.sg_laws_finite.proofs.ElementLemmas.{contains-nil, here, pairs-nil}
use Rattle.sg_laws_finite.proofs.LevelLemmas.{IsLexAbove, from-levels, into-levels, levels-descending}

-- ---- how often a vector fits

-- so often it fits
copies-fit : (b : ℕ) (a v : List ℕ) (c : ℕ) → length a ≡ length v → c ≤ copies b a v → (k : ℕ) → c * get_or a k 0 ≤ get_or v k 0
copies-fit b [] v c e l k = omega arith
copies-fit b (n ∷ a) [] c e l k = absurd (omega arith)
copies-fit b (zero ∷ a) (m ∷ v) c e l zero = omega arith
copies-fit b (zero ∷ a) (m ∷ v) c e l (suc k) = copies-fit b a v c (omega arith) l k
copies-fit b (suc n ∷ a) (m ∷ v) c e l zero = omega (arith, mul-le-mul_right (suc n) (let h : c ≤ m / suc n = omega arith in h), div-mul-le_self m (suc n))
copies-fit b (suc n ∷ a) (m ∷ v) c e l (suc k) = copies-fit b a v c (omega arith) (omega arith) k

-- and no more often, where the bound allows for it
fit-copies : (b : ℕ) (a v : List ℕ) (c : ℕ) → length a ≡ length v → c ≤ b → ((k : ℕ) → c * get_or a k 0 ≤ get_or v k 0) → c ≤ copies b a v
fit-copies b [] v c e l h = l
fit-copies b (n ∷ a) [] c e l h = l
fit-copies b (zero ∷ a) (m ∷ v) c e l h = fit-copies b a v c (omega arith) l (λ k. h (suc k))
fit-copies b (suc n ∷ a) (m ∷ v) c e l h =
    let here : c ≤ m / suc n = le-div c m (suc n) (omega arith) (h 0) in
    let rest : c ≤ copies b a v = fit-copies b a v c (omega arith) l (λ k. h (suc k)) in
    omega (arith, here, rest)

-- no place is above the length
pub place-below_sum : (v : List ℕ) (k : ℕ) → get_or v k 0 ≤ sum v
place-below_sum [] k = omega arith
place-below_sum (m ∷ v) zero = omega (arith, sum_by-cons (λ n. n) m v)
place-below_sum (m ∷ v) (suc k) = omega (arith, sum_by-cons (λ n. n) m v, place-below_sum v k)

-- a nonzero vector fits into v no more often than v's length
fits_within : (a v : List ℕ) (c k : ℕ) → 0 < get_or a k 0 → ((j : ℕ) → c * get_or a j 0 ≤ get_or v j 0) → c ≤ sum v
fits_within a v c k positive h = omega (arith, h k, place-below_sum v k, mul-le-mul_left c positive)

-- ---- the listing

module _ (d : ℕ) where
  -- the rest of v behind c times the vector a
  abbrev rest_of : List ℕ → List ℕ → ℕ → List ℕ
  rest_of a v c = minus v (scale c a)

  rest-length : (a v : List ℕ) (c : ℕ) → length a ≡ d → length v ≡ d → length (rest_of a v c) ≡ d
  rest-length a v c e f = length-minus v (scale c a) (f ∙ sym (length-scale c a ∙ e)) ∙ f

  rest-at : (a v : List ℕ) (c k : ℕ) → length a ≡ d → length v ≡ d → get_or (rest_of a v c) k 0 ≡ get_or v k 0 - c * get_or a k 0
  rest-at a v c k e f = omega (arith, get_or-minus v (scale c a) k (f ∙ sym (length-scale c a ∙ e)), get_or-scale c a k)

  listed-is_partial : (A : List (List ℕ)) (v z : List ℕ) → All (λ a. length a ≡ d) A → length v ≡ d → Contains (all_partial A v) z → IsPartial d A v z
  unfolding all_partial
  listed-is_partial [] v z p e h = elim (contains-cases [] [] z h) [
    | inl f ↦ record { places = ap length (sym f); below = (length-replicate d 0 ∙ sym e, λ k. omega (arith, get_or-zeros d k)) }
    | inr none ↦ absurd (contains-nil z none)
  ]
  listed-is_partial (a ∷ A) v z p e h =
      let first = All-head (λ a. length a ≡ d) a A p in
      let rest = All-tail (λ a. length a ≡ d) a A p in
      let q = from-levels (λ c. all_partial A (minus v (scale c a))) (copies (sum v) a v + 1) z h in
      let f = listed-is_partial A (rest_of a v q.0) q.1 rest (rest-length a v q.0 first e) q.4 in
      let fits : (k : ℕ) → q.0 * get_or a k 0 ≤ get_or v k 0 = copies-fit (sum v) a v q.0 (first ∙ sym e) (omega (arith, q.2)) in
      subst (IsPartial d (a ∷ A) v) (sym q.3) (record {
        places = omega (arith, f.places);
        below = (
          length-vector_value d (a ∷ A) (q.0 ∷ q.1) p ∙ sym e,
          λ k. omega (arith, value-cons d a A q.0 q.1 k first rest, f.below.1 k, rest-at a v q.0 k first e, fits k),
        );
      })

  partial-is_listed : (A : List (List ℕ)) (v z : List ℕ) → All (λ a. length a ≡ d) A → All (λ a. a ≢ replicate d 0) A → length v ≡ d →
      IsPartial d A v z → Contains (all_partial A v) z
  unfolding all_partial
  partial-is_listed [] v [] p nonzero e f = here [] []
  partial-is_listed [] v (c ∷ z) p nonzero e f = absurd (omega (arith, f.places))
  partial-is_listed (a ∷ A) v [] p nonzero e f = absurd (omega (arith, f.places))
  partial-is_listed (a ∷ A) v (c ∷ z) p nonzero e f =
      let first = All-head (λ a. length a ≡ d) a A p in
      let rest = All-tail (λ a. length a ≡ d) a A p in
      let at : (k : ℕ) → c * get_or a k 0 + get_or (vector_value_of d A z) k 0 ≤ get_or v k 0 = λ k. omega (arith, value-cons d a A c z k first rest, f.below.1 k) in
      let fits : (k : ℕ) → c * get_or a k 0 ≤ get_or v k 0 = λ k. omega (arith, at k) in
      let some = positive_place a first (All-head (λ a. a ≢ replicate d 0) a A nonzero) in
      let top : c ≤ copies (sum v) a v = fit-copies (sum v) a v c (first ∙ sym e) (fits_within a v c some.0 some.1 fits) fits in
      into-levels (λ c. all_partial A (minus v (scale c a))) (copies (sum v) a v + 1) c z (omega (arith, top))
      (partial-is_listed A (rest_of a v c) z rest (All-tail (λ a. a ≢ replicate d 0) a A nonzero) (rest-length a v c first e) (record {
        places = omega (arith, f.places);
        below = (
          length-vector_value d A z rest ∙ sym (rest-length a v c first e),
          λ k. omega (arith, at k, rest-at a v c k first e),
        );
      }))
    where
      positive_place : (a : List ℕ) → length a ≡ d → a ≢ replicate d 0 → (k : ℕ) × (0 < get_or a k 0)
      positive_place a e other = elim (zero_or_positive a) [
        | inl none ↦ absurd (other (none ∙ ap (λ n. replicate n 0) e))
        | inr some ↦ some
      ]

  partial-descends : (A : List (List ℕ)) (v : List ℕ) → AllPairs IsLexAbove (all_partial A v)
  unfolding all_partial
  partial-descends [] v = AllPairs-cons IsLexAbove [] [] (All-nil (IsLexAbove [])) (pairs-nil IsLexAbove)
  partial-descends (a ∷ A) v = levels-descending (λ c. all_partial A (minus v (scale c a))) (copies (sum v) a v + 1) (λ c. partial-descends A (minus v (scale c a)))

  -- all vectors with a value at most v, by nonzero vectors, in descending order
  pub partial-listed : (A : List (List ℕ)) (v : List ℕ) → All (λ a. length a ≡ d) A → All (λ a. a ≢ replicate d 0) A → length v ≡ d →
      ListsDescending (IsPartial d A v) (all_partial A v)
  partial-listed A v p nonzero e = record {
    descending = partial-descends A v;
    exactly = λ z. (listed-is_partial A v z p e, partial-is_listed A v z p nonzero e);
  }
