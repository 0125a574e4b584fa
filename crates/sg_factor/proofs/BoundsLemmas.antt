-- Bounds that are lowered along one more generator bound what it makes with the others.
use Rattle.std.proofs.Common.{◌≡◌, ℕ, zero, suc, ◌+◌, ◌-◌, ◌*◌, ◌%◌, ◌<◌, ◌≤◌, List, [], ◌∷◌, ◌++◌, length, get_or, drop, set, sum, refl, sym, ap, subst, ◌∙◌, inl, inr, arith}
use Rattle.std.specs.Prelude.{slice_index, slice_index_or}
use Rattle.std.proofs.lemmas.Bool.{cases_lt, cases_eq}
use Rattle.std.proofs.lemmas.Nat.{mod_below}
use Rattle.std.proofs.lemmas.List.{length-set, get_or-set_same, get_or-set_other, get_or_append_left, length-append, length-drop, drop_all}
use Rattle.std.proofs.lemmas.List.Sums.{sum_by-set}
use Rattle.std.proofs.Math.Seq.{get_or-append_seam}
use Rattle.std.proofs.Math.Nat.{mod-add-mod}
use Rattle.sg_defs.specs.Vectors.{value_of}
use Rattle.sg_defs.specs.Membership.{IsMember}
use Rattle.sg_classes.specs.Classes.{IsAboveEntry}
use Rattle.sg_classes.proofs.ResidueLemmas.{zero-residue}
use Rattle.sg_factor.proofs.CoinLemmas.{from-place}
use Rattle.sg_factor.specs.Bounds.{AreBounds, AreLowered, IsClosed}

-- ---- lowering

pub lowered-none : (t : List ℕ) → AreLowered t t
lowered-none t = record { long = refl; lower = λ i l. omega arith }

pub lowered-then : (a b c : List ℕ) → AreLowered a b → AreLowered b c → AreLowered a c
lowered-then a b c p q = record { long = q.long ∙ p.long; lower = λ i l. omega (arith, q.lower i l, p.lower i (omega (arith, l, q.long))) }

-- one entry is lowered
pub lowered-set : (t : List ℕ) (i v : ℕ) → i < length t → v < slice_index t i → AreLowered t (set t i v)
lowered-set t i v inside less = record {
  long = length-set t i v;
  lower = λ j l. elim (cases_eq j i) [
    | inl same ↦ omega (arith, ap (λ k. get_or (set t i v) k 0) same, ap (λ k. get_or t k 0) same, get_or-set_same t i v 0 inside, less)
    | inr other ↦ omega (arith, get_or-set_other t i j v 0 other)
  ];
}

-- and the sum with it
pub sum-lower_entry : (t : List ℕ) (i v : ℕ) → i < length t → v < slice_index t i → sum (set t i v) < sum t
sum-lower_entry t i v inside less = omega (arith, sum_by-set (λ n. n) t i v 0 inside, less)

-- ---- one generator more

-- from an entry that bounds y, the bounds of y and of multiples of g
climb : (t : List ℕ) (g y c : ℕ) → 0 < length t → IsClosed t g → IsAboveEntry t y → IsAboveEntry t (c * g + y)
climb t g y zero some closed h = subst (IsAboveEntry t) (let e : y ≡ 0 * g + y = omega arith in e) h
climb t g y (suc c) some closed h =
    let m = length t in
    let x = c * g + y in
    let i = x % m in
    let before : slice_index t i ≤ x = climb t g y c some closed h in
    let step : slice_index t ((i + g) % m) ≤ slice_index t i + g = closed i (mod_below x m some) in
    let same : (i + g) % m ≡ (suc c * g + y) % m = mod-add-mod x m g ∙ ap (λ n. n % m) (let e : x + g ≡ suc c * g + y = omega arith in e) in
    omega (arith, step, before, ap (λ k. get_or t k 0) same)

-- what bounds the others, lowered along g, bounds all
pub above-next : (g : ℕ) (gs old new : List ℕ) → 0 < length new → ((x : ℕ) → IsMember gs x → IsAboveEntry old x) → AreLowered old new → IsClosed new g →
    (x : ℕ) → IsMember (g ∷ gs) x → IsAboveEntry new x
above-next g gs old new some before down closed x ([], f) = absurd (omega (arith, f.places))
above-next g gs old new some before down closed x (c ∷ z, f) =
    let y = value_of gs z in
    let first : slice_index old (y % length old) ≤ y = before y (z, record { places = omega (arith, f.places); value = refl }) in
    let here : slice_index new (y % length new) ≤ slice_index old (y % length new) = down.lower (y % length new) (mod_below y (length new) some) in
    let at : IsAboveEntry new y = omega (arith, first, here, ap (λ m. get_or old (y % m) 0) down.long) in
    subst (IsAboveEntry new) f.value (climb new g y c some closed at)

-- 0 alone is made of nothing
pub above-nothing : (t : List ℕ) → 0 < length t → slice_index t 0 ≡ 0 → (x : ℕ) → IsMember [] x → IsAboveEntry t x
above-nothing t some zero_ x (z, f) =
    let e : 0 ≡ x = f.value in
    subst (IsAboveEntry t) e (omega (arith, zero_, ap (λ k. get_or t k 0) (zero-residue (length t) some)))

-- ---- the steps of a program

-- the list of tables, so far
pub record AreBoundsSoFar (G : List ℕ) (count : ℕ) (rows : List (List ℕ)) (t : List ℕ) : Type 0 where
  pub counted : length rows ≡ count
  pub bounds : AreBounds (drop (length G - count) G) rows
  pub table : (x : ℕ) → IsMember (drop (length G - count) G) x → IsAboveEntry t x

-- one table more
bounds-more : (g : ℕ) (gs : List ℕ) (rows : List (List ℕ)) (t : List ℕ) → 0 < length t → length rows ≡ length gs → AreBounds gs rows →
    ((x : ℕ) → IsMember (g ∷ gs) x → IsAboveEntry t x) → AreBounds (g ∷ gs) (rows ++ t ∷ [])
bounds-more g gs rows t some many h here = record {
  long = omega (arith, length-append rows (t ∷ []), many);
  filled = λ k l. elim (cases_lt k (length rows)) [
    | inl less ↦ omega (arith, ap length (get_or_append_left rows (t ∷ []) [] k less), h.filled k less)
    | inr more ↦
        let e : k ≡ length rows = omega (arith, l, length-append rows (t ∷ [])) in
        omega (arith, some, ap length (ap (λ i. get_or (rows ++ t ∷ []) i []) e ∙ get_or-append_seam rows t [] []))
  ];
  below = below;
}
  where
    below : (k x : ℕ) → k < length (g ∷ gs) → IsMember (drop k (g ∷ gs)) x → IsAboveEntry (slice_index_or (rows ++ t ∷ []) (length (g ∷ gs) - 1 - k) []) x
    below zero x l m =
        let e : length rows ≡ length (g ∷ gs) - 1 - 0 = omega (arith, many) in
        subst (λ i. IsAboveEntry (slice_index_or (rows ++ t ∷ []) i []) x) e (subst (λ u. IsAboveEntry u x) (sym (get_or-append_seam rows t [] [])) (here x m))
    below (suc k) x l m =
        let e : length gs - 1 - k ≡ length (g ∷ gs) - 1 - suc k = omega arith in
        let less : length gs - 1 - k < length rows = omega (arith, l, many) in
        subst (λ i. IsAboveEntry (slice_index_or (rows ++ t ∷ []) i []) x) e
        (subst (λ u. IsAboveEntry u x) (sym (get_or_append_left rows (t ∷ []) [] (length gs - 1 - k) less)) (h.below k x (omega arith) m))

pub bounds-start : (G t : List ℕ) → 0 < length t → slice_index t 0 ≡ 0 → AreBoundsSoFar G 0 [] t
bounds-start G t some zero_ = record {
  counted = refl;
  bounds = subst (λ H. AreBounds H []) (sym none) (record { long = omega arith; filled = λ k l. absurd (omega arith); below = λ k x l. absurd (omega arith) });
  table = subst (λ H. (x : ℕ) → IsMember H x → IsAboveEntry t x) (sym none) (above-nothing t some zero_);
}
  where
    none : drop (length G - 0) G ≡ []
    none = drop_all (length G - 0) G (omega arith)

pub bounds-step : (G : List ℕ) (count : ℕ) (rows new : List (List ℕ)) (old t : List ℕ) → count < length G → 0 < length t → AreLowered old t → IsClosed t (get_or G (length G - 1 - count) 0) →
    new ≡ rows ++ t ∷ [] → AreBoundsSoFar G count rows old → AreBoundsSoFar G (count + 1) new t
bounds-step G count rows new old t inside some down closed made h =
    let g = get_or G (length G - 1 - count) 0 in
    let gs = drop (length G - count) G in
    let here = above-next g gs old t some h.table down closed in
    let long : length gs ≡ count = omega (arith, length-drop (length G - count) G) in
    let e = from-place G count inside in
    record {
      counted = omega (arith, ap length made, length-append rows (t ∷ []), h.counted);
      bounds = subst (AreBounds (drop (length G - (count + 1)) G)) (sym made) (subst (λ H. AreBounds H (rows ++ t ∷ [])) (sym e)
          (bounds-more g gs rows t some (omega (arith, h.counted, long)) h.bounds here));
      table = subst (λ H. (x : ℕ) → IsMember H x → IsAboveEntry t x) (sym e) here;
    }

pub bounds-done : (G : List ℕ) (count : ℕ) (rows : List (List ℕ)) (t : List ℕ) → length G ≤ count → AreBoundsSoFar G count rows t → AreBounds G rows
bounds-done G count rows t far h = subst (λ k. AreBounds (drop k G) rows) (let e : length G - count ≡ 0 = omega arith in e) h.bounds
