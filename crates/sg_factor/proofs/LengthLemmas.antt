-- Lengths of a number, by the differences of the generators and the first.
use Rattle.std.proofs.Common.{◌≡◌, ℕ, suc, ◌+◌, ◌-◌, ◌*◌, ◌/◌, ◌<◌, ◌≤◌, List, [], ◌∷◌, ◌++◌, length, get_or, drop, map, sum, sym, ap, subst, ◌∙◌, inl, inr, ◌↔◌, arith}
use Rattle.std.specs.Prelude.{slice_index, All}
use Rattle.std.specs.List.Sorted.{IsStrictlyIncreasing}
use Rattle.std.proofs.lemmas.Bool.{cases_lt, cases_eq}
use Rattle.std.proofs.lemmas.Nat.{le-div}
use Rattle.std.proofs.lemmas.List.{length-map, length-drop, get_or-drop, get_or-map, length-append, get_or_append_left}
use Rattle.std.proofs.Math.Seq.{get_or-append_seam}
use Rattle.std.proofs.lemmas.List.Sums.{sum_by-cons}
use Rattle.std.specs.Int.{div_ceil}
use Rattle.std.proofs.lemmas.Grind.{div_ceil_times}
use Rattle.std.proofs.Math.Nat.{mul-le-mul_left, mul-le-mul_right, div-mul-le_self}
use Rattle.sg_defs.specs.Vectors.{value_of}
use Rattle.sg_defs.specs.Membership.{IsFactorization, IsMember, IsNumericalSemigroup}
use Rattle.sg_defs.proofs.MinimalLemmas.{first-least}
use Rattle.sg_nonunique.specs.Factorizations.{IsLengthIn}
use Rattle.sg_classes.proofs.ListingLemmas.{ListsBelow}
use Rattle.sg_factor.specs.Coins.{IsSumWithin, IsLeastCount, AreLeastCounts}
use Rattle.sg_factor.specs.LengthTables.{differences_of, IsLengthTable, IsLeastLength}
use Rattle.sg_factor.specs.declared.coins.TheConstants.{NO_SUM}
use Rattle.sg_factor.specs.declared.limits.TheConstants.{LENGTH_LIMIT}
use Rattle.sg_factor.proofs.AscendingLemmas.{ascends, ascends-le}
use Rattle.sg_factor.proofs.BoundLemmas.{value-at_least, value-at_most}

-- the value is that by the differences, and f for each that is taken
value-split : (gs w : List ℕ) (f : ℕ) → length w ≡ length gs → ((k : ℕ) → k < length gs → f ≤ get_or gs k 0) → value_of gs w ≡ value_of (map (λ g. g - f) gs) w + f * sum w
value-split [] [] f e h = omega arith
value-split [] (c ∷ w) f e h = absurd (omega arith)
value-split (g ∷ gs) [] f e h = absurd (omega arith)
value-split (g ∷ gs) (c ∷ w) f e h =
    let p : length w ≡ length gs = omega arith in
    let rest = value-split gs w f p (λ k l. h (suc k) (omega arith)) in
    let more : f ≤ g = h 0 (omega arith) in
    let here : c * g ≡ c * (g - f) + c * f = ap (λ x. c * x) (let q : g ≡ g - f + f = omega arith in q) ∙ (let r : c * (g - f + f) ≡ c * (g - f) + c * f = omega arith in r) in
    omega (arith, rest, here, ap (λ s. f * s) (sum_by-cons (λ n. n) c w))

-- l is a length of n exactly where n without l times the first generator is a sum of at most l differences
pub length-iff : (G : List ℕ) (n l : ℕ) → 0 < length G → ((k : ℕ) → k < length G → get_or G 0 0 ≤ get_or G k 0) → l * get_or G 0 0 ≤ n →
    IsLengthIn (IsFactorization G n) l ↔ IsSumWithin (differences_of G) (n - l * get_or G 0 0) l
length-iff [] n l some least fits = absurd (omega arith)
length-iff (f ∷ gs) n l some least fits = (there, back)
  where
    rises : (k : ℕ) → k < length gs → f ≤ get_or gs k 0
    rises k h = least (suc k) (omega arith)

    there : IsLengthIn (IsFactorization (f ∷ gs) n) l → IsSumWithin (map (λ g. g - f) gs) (n - l * f) l
    there ([], p, e) = absurd (omega (arith, p.places))
    there (c ∷ w, p, e) =
        let places : length w ≡ length gs = omega (arith, p.places) in
        let s = sum_by-cons (λ n. n) c w in
        let total : f * l ≡ f * (c + sum w) = ap (λ x. f * x) (sym e ∙ s) in (
          w,
          record { places = places ∙ sym (length-map gs (λ g. g - f)); value = omega (arith, p.value, value-split gs w f places rises, total) },
          omega (arith, s, e),
        )

    back : IsSumWithin (map (λ g. g - f) gs) (n - l * f) l → IsLengthIn (IsFactorization (f ∷ gs) n) l
    back (w, p, b) =
        let places : length w ≡ length gs = p.places ∙ length-map gs (λ g. g - f) in
        let c = l - sum w in
        let whole : c + sum w ≡ l = omega (arith, b) in
        let total : f * (c + sum w) ≡ f * l = ap (λ x. f * x) whole in (
          c ∷ w,
          record { places = omega (arith, places); value = omega (arith, p.value, value-split gs w f places rises, total, fits) },
          sum_by-cons (λ n. n) c w ∙ whole,
        )

-- a length times the first generator is at most the number, and times the last it is no less
pub length-bounds : (G : List ℕ) (n l : ℕ) → IsStrictlyIncreasing G → IsLengthIn (IsFactorization G n) l → (l * get_or G 0 0 ≤ n) × (n ≤ l * get_or G (length G - 1) 0)
length-bounds G n l up (z, p, e) =
    let last : (k : ℕ) → k < length G → get_or G k 0 ≤ get_or G (length G - 1) 0 = λ k h. ascends-le G up k (length G - 1) (omega arith) (omega arith) in (
      omega (arith, value-at_least G z (get_or G 0 0) p.places (first-least G up), p.value, ap (λ s. get_or G 0 0 * s) e),
      omega (arith, value-at_most G z (get_or G (length G - 1) 0) p.places last, p.value, ap (λ s. get_or G (length G - 1) 0 * s) e),
    )

-- what is read lies in a table up to the product of the number and the greatest difference by the last generator
pub read-inside : (upto n l f g : ℕ) → 0 < g → f ≤ g → n ≤ upto → l * f ≤ n → n ≤ l * g → n - l * f ≤ upto * (g - f) / g
read-inside upto n l f g positive le below fits far =
    let r = n - l * f in
    let d = g - f in
    let whole : n ≡ r + l * f = omega (arith, fits) in
    let wide : g ≡ f + d = omega (arith, le) in
    let left : n * g ≡ r * g + l * f * g = ap (λ x. x * g) whole ∙ (let e : (r + l * f) * g ≡ r * g + l * f * g = omega arith in e) in
    let right : n * g ≡ n * f + n * d = ap (λ x. n * x) wide ∙ (let e : n * (f + d) ≡ n * f + n * d = omega arith in e) in
    let many : f * n ≤ f * (l * g) = mul-le-mul_left f far in
    let more : d * n ≤ d * upto = mul-le-mul_left d below in
    le-div r (upto * d) g positive (omega (arith, left, right, many, more))

-- below the least quotient by the last generator there is no length
pub lists-from : (P : ℕ → Type 0) (n : ℕ) → ((x : ℕ) → x < n → P x → ⊥) → ListsBelow P n []
lists-from P n none = record {
  ascending = λ k l. absurd (omega arith);
  exactly = λ x. ((λ h. absurd (omega (arith, h.1))), (λ h. absurd (none x h.0 h.1)));
}

-- an entry of the table of coins tells the least length
pub least-from_count : (G : List ℕ) (n c : ℕ) → IsNumericalSemigroup G → n ≤ LENGTH_LIMIT → IsLeastCount G n c →
    (c ≡ NO_SUM → IsLeastLength G n 0) × ((c ≡ NO_SUM → ⊥) → IsLeastLength G n (suc c))
least-from_count G n c s small h = (none, some)
  where
    -- there are no more coins than their sum says
    short : (z : List ℕ) → IsFactorization G n z → sum z ≤ n
    short z p = omega (arith, value-at_least G z 1 p.places (λ k l. s.positive k 0 l), p.value)

    none : c ≡ NO_SUM → IsMember G n → ⊥
    none e (z, p) = omega (arith, e, short z p, (h.within (sum z) (omega (arith, short z p))).1 (z, p, omega arith))

    some : (c ≡ NO_SUM → ⊥) → IsLeastLength G n (suc c)
    some not =
        let less : c < NO_SUM = elim (cases_lt c NO_SUM) [ inl l ↦ l | inr m ↦ absurd (not (omega (arith, m, h.bounded))) ] in
        let found = (h.within c less).0 (omega arith) in
        let least : c ≤ sum found.0 = (h.within (sum found.0) (omega (arith, found.2))).1 (found.0, found.1, omega arith) in (
          (found.0, found.1, omega (arith, least, found.2)),
          λ l p. elim (cases_lt l NO_SUM) [
            | inl fits ↦ (h.within l fits).1 (p.0, p.1, omega (arith, p.2))
            | inr far ↦ omega arith
          ],
        )

-- the differences are positive
pub differences-positive : (G : List ℕ) → IsStrictlyIncreasing G → All (λ d. 1 ≤ d) (differences_of G)
differences-positive G up k d inside =
    let long : k < length (drop 1 G) = omega (arith, inside, length-map (drop 1 G) (λ g. g - get_or G 0 0)) in
    let far : 1 + k < length G = omega (arith, long, length-drop 1 G) in
    let at : get_or (map (λ g. g - get_or G 0 0) (drop 1 G)) k d ≡ get_or (drop 1 G) k 0 - get_or G 0 0 = get_or-map (λ g. g - get_or G 0 0) (drop 1 G) k 0 d long in
    omega (arith, at, get_or-drop 1 G k 0, ascends G up 0 (1 + k) (omega arith) far)

-- a table of coins up to the greatest place that is read is a table of lengths
pub table-made : (G counts : List ℕ) (upto : ℕ) → IsNumericalSemigroup G → IsStrictlyIncreasing G → upto ≤ LENGTH_LIMIT → AreLeastCounts (differences_of G) counts →
    length counts ≡ upto * (get_or G (length G - 1) 0 - get_or G 0 0) / get_or G (length G - 1) 0 + 1 → IsLengthTable G upto counts
table-made G counts upto s up small sums_ long_ = record {
  semigroup = s;
  ascending = up;
  small = small;
  sums = sums_;
  long = λ n l below fits far. omega (
    arith,
    long_,
    read-inside upto n l (get_or G 0 0) (get_or G (length G - 1) 0) (omega (arith, s.positive (length G - 1) 0 (omega (arith, s.not_empty))))
        (ascends-le G up 0 (length G - 1) (omega arith) (omega (arith, s.not_empty))) below fits far,
  );
}

-- ---- the steps of a program that reads the table

module _ (G counts : List ℕ) (upto n : ℕ) (t : IsLengthTable G upto counts) (below : n ≤ upto) where
  first_positive : 0 < get_or G 0 0
  first_positive = omega (arith, t.semigroup.positive 0 0 t.semigroup.not_empty)

  last_positive : 0 < get_or G (length G - 1) 0
  last_positive = omega (arith, t.semigroup.positive (length G - 1) 0 (omega (arith, t.semigroup.not_empty)))

  -- before the least quotient there is none
  pub lengths-init : ListsBelow (IsLengthIn (IsFactorization G n)) (div_ceil n (get_or G (length G - 1) 0)) []
  lengths-init = lists-from (IsLengthIn (IsFactorization G n)) (div_ceil n (get_or G (length G - 1) 0)) (λ l less p.
      let more : suc l ≤ div_ceil n (get_or G (length G - 1) 0) = omega arith in
      let times : suc l * get_or G (length G - 1) 0 ≤ div_ceil n (get_or G (length G - 1) 0) * get_or G (length G - 1) 0 = mul-le-mul_right (get_or G (length G - 1) 0) more in
      omega (arith, times, (div_ceil_times n (get_or G (length G - 1) 0) last_positive).1, (length-bounds G n l t.ascending p).1))

  -- a place that is read lies in the table
  pub read-fits : (l : ℕ) → div_ceil n (get_or G (length G - 1) 0) ≤ l → l < n / get_or G 0 0 + 1 → (l * get_or G 0 0 ≤ n) × (n - l * get_or G 0 0 < length counts)
  read-fits l low high =
      let most : l ≤ n / get_or G 0 0 = omega arith in
      let fits : l * get_or G 0 0 ≤ n = omega (arith, mul-le-mul_right (get_or G 0 0) most, div-mul-le_self n (get_or G 0 0)) in
      let far : n ≤ l * get_or G (length G - 1) 0 =
      omega (arith, mul-le-mul_right (get_or G (length G - 1) 0) low, (div_ceil_times n (get_or G (length G - 1) 0) last_positive).0) in
      (fits, t.long n l below fits far)

  -- what is read tells whether it is a length
  pub read-tells : (l : ℕ) → l * get_or G 0 0 ≤ n → n - l * get_or G 0 0 < length counts → (slice_index counts (n - l * get_or G 0 0) ≤ l) ↔ IsLengthIn (IsFactorization G n) l
  read-tells l fits inside =
      let small : l < NO_SUM = omega (arith, below, t.small, fits, mul-le-mul_left l (let h : 1 ≤ get_or G 0 0 = first_positive in h)) in
      let count = (t.sums.each (n - l * get_or G 0 0) inside).within l small in
      let same = length-iff G n l t.semigroup.not_empty (first-least G t.ascending) fits in
      ((λ h. same.1 (count.0 h)), (λ p. count.1 (same.0 p)))

  -- behind the greatest quotient there is none
  pub lengths-end : (l : ℕ) → IsLengthIn (IsFactorization G n) l → l < n / get_or G 0 0 + 1
  lengths-end l p = let h : l ≤ n / get_or G 0 0 = le-div l n (get_or G 0 0) first_positive (length-bounds G n l t.ascending p).0 in omega arith

-- one entry more of the list of least lengths
pub least-push : (G counts least new : List ℕ) (i v upto : ℕ) → IsNumericalSemigroup G → upto ≤ LENGTH_LIMIT → AreLeastCounts G counts → length counts ≡ upto + 1 → i < length counts → length least ≡ i →
    ((n : ℕ) → n < i → IsLeastLength G n (slice_index least n)) → (slice_index counts i ≡ NO_SUM → v ≡ 0) → ((slice_index counts i ≡ NO_SUM → ⊥) → v ≡ slice_index counts i + 1) → new ≡ least ++ v ∷ [] →
    (length new ≡ i + 1) × ((n : ℕ) → n < i + 1 → IsLeastLength G n (slice_index new n))
least-push G counts least new i v upto s small sums_ long_ inside many before none some made = (omega (arith, ap length made, length-append least (v ∷ []), many), each)
  where
    tells : (slice_index counts i ≡ NO_SUM → IsLeastLength G i 0) × ((slice_index counts i ≡ NO_SUM → ⊥) → IsLeastLength G i (suc (slice_index counts i)))
    tells = least-from_count G i (slice_index counts i) s (omega (arith, small, long_, inside)) (sums_.each i inside)

    here : IsLeastLength G i v
    here = elim (cases_eq (slice_index counts i) NO_SUM) [
      | inl e ↦ subst (IsLeastLength G i) (sym (none e)) (tells.0 e)
      | inr not ↦ subst (IsLeastLength G i) (let e : suc (slice_index counts i) ≡ v = omega (arith, some not) in e) (tells.1 not)
    ]

    each : (n : ℕ) → n < i + 1 → IsLeastLength G n (slice_index new n)
    each n l = elim (cases_lt n i) [
      | inl less ↦ subst (IsLeastLength G n) (sym (ap (λ k. slice_index k n) made ∙ get_or_append_left least (v ∷ []) 0 n (omega (arith, less, many)))) (before n less)
      | inr more ↦
          let e : i ≡ n = omega (arith, l) in
          let at : slice_index new n ≡ v = ap (λ k. slice_index k n) made ∙ ap (λ k. slice_index (least ++ v ∷ []) k) (sym e ∙ sym many) ∙ get_or-append_seam least v [] 0 in
          subst (IsLeastLength G n) (sym at) (subst (λ k. IsLeastLength G k v) e here)
    ]
