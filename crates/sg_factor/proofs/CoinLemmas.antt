-- The least numbers of coins, coin by coin and sum by sum.
use Rattle.std.proofs.Common.{◌≡◌, ◌≢◌, ℕ, zero, suc, ◌+◌, ◌-◌, ◌<◌, ◌≤◌, List, [], ◌∷◌, length, get_or, drop, set, refl, sym, ap, subst, ◌∙◌, inl, inr, arith}
use Rattle.std.specs.Prelude.{◌⊎◌, slice_index}
use Rattle.std.proofs.lemmas.Bool.{cases_eq}
use Rattle.std.proofs.lemmas.List.{length-set, get_or-set_same, get_or-set_other}
use Rattle.std.proofs.Math.Seq.{drop-cons}
use Rattle.std.proofs.lemmas.List.Sums.{sum_by-cons}
use Rattle.sg_factor.specs.declared.coins.TheConstants.{NO_SUM}
use Rattle.sg_factor.specs.Coins.{IsSumWithin, IsLeastCount, AreLeastCounts}

-- with one coin more: without it, or once less and a coin less
sum-cases : (D : List ℕ) (g x l : ℕ) → IsSumWithin (g ∷ D) x l → IsSumWithin D x l ⊎ ((1 ≤ l) × (g ≤ x) × IsSumWithin (g ∷ D) (x - g) (l - 1))
sum-cases D g x l ([], f, b) = absurd (omega (arith, f.places))
sum-cases D g x l (zero ∷ z, f, b) = inl (z, record { places = omega (arith, f.places); value = omega (arith, f.value) }, omega (arith, b, sum_by-cons (λ n. n) 0 z))
sum-cases D g x l (suc c ∷ z, f, b) =
    let s = sum_by-cons (λ n. n) (suc c) z in
    inr (omega (arith, b, s), omega (arith, f.value), (c ∷ z, record { places = f.places; value = omega (arith, f.value) }, omega (arith, b, s, sum_by-cons (λ n. n) c z)))

-- back: without it
sum-without : (D : List ℕ) (g x l : ℕ) → IsSumWithin D x l → IsSumWithin (g ∷ D) x l
sum-without D g x l (z, f, b) = (0 ∷ z, record { places = ap suc f.places; value = omega (arith, f.value) }, omega (arith, b, sum_by-cons (λ n. n) 0 z))

-- and once more
sum-with : (D : List ℕ) (g x l : ℕ) → 1 ≤ l → g ≤ x → IsSumWithin (g ∷ D) (x - g) (l - 1) → IsSumWithin (g ∷ D) x l
sum-with D g x l some fits ([], f, b) = absurd (omega (arith, f.places))
sum-with D g x l some fits (c ∷ z, f, b) =
    (suc c ∷ z, record { places = f.places; value = omega (arith, f.value) }, omega (arith, b, sum_by-cons (λ n. n) c z, sum_by-cons (λ n. n) (suc c) z))

-- where the new coin is too great, nothing changes
count-without : (D : List ℕ) (g x n : ℕ) → x < g → IsLeastCount D x n → IsLeastCount (g ∷ D) x n
count-without D g x n less h = record {
  within = λ l small. (
    (λ le. sum-without D g x l ((h.within l small).0 le)),
    (λ s. elim (sum-cases D g x l s) [ inl without ↦ (h.within l small).1 without | inr with ↦ absurd (omega (arith, with.1)) ]),
  );
  bounded = h.bounded;
}

-- the lesser of the old number, and one more than that of the rest
count-with : (D : List ℕ) (g x a b n : ℕ) → g ≤ x → IsLeastCount D x a → IsLeastCount (g ∷ D) (x - g) b → (n ≤ a) × (n ≤ b + 1) × ((n ≡ a) ⊎ (n ≡ b + 1)) → IsLeastCount (g ∷ D) x n
count-with D g x a b n fits p q least = record {
  within = λ l small. (there l small, back l small);
  bounded = omega (arith, p.bounded, least.0);
}
  where
    there : (l : ℕ) → l < NO_SUM → n ≤ l → IsSumWithin (g ∷ D) x l
    there l small le = elim least.2 [
      | inl e ↦ sum-without D g x l ((p.within l small).0 (omega arith))
      | inr e ↦ sum-with D g x l (omega arith) fits ((q.within (l - 1) (omega arith)).0 (omega arith))
    ]

    back : (l : ℕ) → l < NO_SUM → IsSumWithin (g ∷ D) x l → n ≤ l
    back l small s = elim (sum-cases D g x l s) [
      | inl without ↦ omega (arith, (p.within l small).1 without, least.0)
      | inr with ↦ omega (arith, (q.within (l - 1) (omega arith)).1 with.2, least.1, with.0)
    ]

-- ---- the steps of a program

-- entries below x know the new coin, the others do not
pub record AreCountsUpTo (D : List ℕ) (g : ℕ) (t : List ℕ) (x : ℕ) : Type 0 where
  pub done : (y : ℕ) → y < x → y < length t → IsLeastCount (g ∷ D) y (slice_index t y)
  pub waiting : (y : ℕ) → x ≤ y → y < length t → IsLeastCount D y (slice_index t y)

-- no sum below the coin has it
pub counts-first : (D : List ℕ) (g : ℕ) (t : List ℕ) → AreLeastCounts D t → AreCountsUpTo D g t g
counts-first D g t h = record { done = λ y l inside. count-without D g y (slice_index t y) l (h.each y inside); waiting = λ y l inside. h.each y inside }

-- one entry more, which is lowered or stays
pub counts-next : (D : List ℕ) (g : ℕ) (t new : List ℕ) (x : ℕ) → 0 < g → g ≤ x → x < length t → AreCountsUpTo D g t x →
    ((slice_index t (x - g) + 1 < slice_index t x) × (new ≡ set t x (slice_index t (x - g) + 1))) ⊎ ((slice_index t x ≤ slice_index t (x - g) + 1) × (new ≡ t)) → AreCountsUpTo D g new (x + 1)
counts-next D g t new x positive fits inside h step = record {
  done = λ y l inside_y. elim (cases_eq y x) [
    | inl same ↦ subst (λ k. IsLeastCount (g ∷ D) k (slice_index new k)) (sym same) here
    | inr other ↦ subst (IsLeastCount (g ∷ D) y) (sym (kept y other)) (h.done y (omega arith) (omega (arith, long)))
  ];
  waiting = λ y l inside_y. subst (IsLeastCount D y) (sym (kept y (λ e. omega arith))) (h.waiting y (omega arith) (omega (arith, long)));
}
  where
    long : length new ≡ length t
    long = elim step [ inl s ↦ ap length s.1 ∙ length-set t x (slice_index t (x - g) + 1) | inr s ↦ ap length s.1 ]

    kept : (y : ℕ) → y ≢ x → slice_index new y ≡ slice_index t y
    kept y other = elim step [
      | inl s ↦ ap (λ k. slice_index k y) s.1 ∙ get_or-set_other t x y (slice_index t (x - g) + 1) 0 other
      | inr s ↦ ap (λ k. slice_index k y) s.1
    ]

    before : IsLeastCount (g ∷ D) (x - g) (slice_index t (x - g))
    before = h.done (x - g) (omega arith) (omega arith)

    least : (slice_index new x ≤ slice_index t x) × (slice_index new x ≤ slice_index t (x - g) + 1) × ((slice_index new x ≡ slice_index t x) ⊎ (slice_index new x ≡ slice_index t (x - g) + 1))
    least = elim step [
      | inl s ↦
          let e : slice_index new x ≡ slice_index t (x - g) + 1 = ap (λ k. slice_index k x) s.1 ∙ get_or-set_same t x (slice_index t (x - g) + 1) 0 inside in
          (omega (arith, e, s.0), omega (arith, e), inr e)
      | inr s ↦
          let e : slice_index new x ≡ slice_index t x = ap (λ k. slice_index k x) s.1 in
          (omega (arith, e), omega (arith, e, s.0), inl e)
    ]

    here : IsLeastCount (g ∷ D) x (slice_index new x)
    here = count-with D g x (slice_index t x) (slice_index t (x - g)) (slice_index new x) fits (h.waiting x (omega arith) inside) before least

-- and no entry grows
pub bounded-next : (t new : List ℕ) (x v b : ℕ) → x < length t → ((y : ℕ) → y < length t → slice_index t y ≤ b) → ((v < slice_index t x) × (new ≡ set t x v)) ⊎ (new ≡ t) →
    (y : ℕ) → y < length new → slice_index new y ≤ b
bounded-next t new x v b inside h (inr e) y l = subst (λ k. slice_index k y ≤ b) (sym e) (h y (subst (λ k. y < length k) e l))
bounded-next t new x v b inside h (inl s) y l = elim (cases_eq y x) [
  | inl same ↦ omega (arith, ap (λ k. slice_index new k) same, ap (λ k. slice_index k x) s.1, get_or-set_same t x v 0 inside, s.0, h x inside)
  | inr other ↦ omega (arith, ap (λ k. slice_index k y) s.1, get_or-set_other t x y v 0 other, h y (omega (arith, l, ap length s.1, length-set t x v)))
]

-- at the end all know it
pub counts-last : (D : List ℕ) (g : ℕ) (t : List ℕ) (x : ℕ) → length t ≤ x → AreCountsUpTo D g t x → AreLeastCounts (g ∷ D) t
counts-last D g t x far h = record { each = λ y inside. h.done y (omega arith) inside }

-- ---- the end of a list

-- what stands from a place on, and what stands at it
pub from-place : (xs : List ℕ) (count : ℕ) → count < length xs →
    drop (length xs - (count + 1)) xs ≡ get_or xs (length xs - 1 - count) 0 ∷ drop (length xs - count) xs
from-place xs count l =
    let k = length xs - 1 - count in
    let e : length xs - (count + 1) ≡ k = omega arith in
    let f : suc k ≡ length xs - count = omega arith in
    ap (λ i. drop i xs) e ∙ drop-cons xs k 0 (omega arith) ∙ ap (λ i. get_or xs k 0 ∷ drop i xs) f

-- ---- before the first coin

-- by no coins 0 is the only sum
pub counts-none : (t : List ℕ) → 0 < length t → ((x : ℕ) → x < length t → slice_index t x ≡ NO_SUM) → AreLeastCounts [] (set t 0 0)
counts-none t some empty = record {
  each = λ x inside. elim (cases_eq x 0) [
    | inl same ↦ subst (λ k. IsLeastCount [] k (slice_index (set t 0 0) k)) (sym same) (subst (IsLeastCount [] 0) (sym (get_or-set_same t 0 0 0 some)) zero-count)
    | inr other ↦ subst (IsLeastCount [] x) (sym (get_or-set_other t 0 x 0 0 other ∙ empty x (omega (arith, inside, length-set t 0 0)))) (no-count x other)
  ];
}
  where
    zero-count : IsLeastCount [] 0 0
    zero-count = record { within = λ l small. ((λ h. ([], record { places = refl; value = refl }, omega arith)), (λ h. omega arith)); bounded = omega arith }

    no-count : (x : ℕ) → x ≢ 0 → IsLeastCount [] x NO_SUM
    no-count x other = record { within = λ l small. ((λ h. absurd (omega arith)), (λ h. absurd (other (sym h.1.value)))); bounded = omega arith }
