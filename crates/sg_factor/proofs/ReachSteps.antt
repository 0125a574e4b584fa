-- The steps of a program that reaches vectors one by one.
use Rattle.std.proofs.Common.{◌≡◌, ◌≢◌, ℕ, ◌-◌, ◌<◌, ◌≤◌, List, [], ◌∷◌, length, set, sum, min, max, ap, ◌∙◌, arith}
use Rattle.std.specs.Prelude.{slice_index, slice_index_or, EachIndex}
use Rattle.std.proofs.lemmas.List.{length-set, get_or-set_same, get_or-set_other}
use Rattle.std.proofs.lemmas.List.Sums.{sum_by-cons}
use Rattle.sg_defs.specs.Vectors.{minus, meet, distance}
use Rattle.sg_factor.specs.Nearness.{AreComparable}
use Rattle.sg_factor.proofs.ReachLemmas.{IsReached, reached-first, reached-more, open_count, open-fewer}

-- what is taken away leaves no more
excess-le : (x y : List ℕ) → sum (minus x y) ≤ sum x
excess-le [] y = omega arith
excess-le (a ∷ x) [] = omega (arith, sum_by-cons (λ n. n) a x)
excess-le (a ∷ x) (b ∷ y) = omega (arith, sum_by-cons (λ n. n) (a - b) (minus x y), sum_by-cons (λ n. n) a x, excess-le x y)

-- no distance is above both lengths
distance-small : (x y : List ℕ) (N : ℕ) → sum x < N → sum y < N → distance x y < N
distance-small x y N p q = omega (arith, excess-le x (meet x y), excess-le y (meet x y))

module _ (rows : List (List ℕ)) (R : ℕ) where
  -- what a call notes: a place that is reached keeps its number, another has the lesser distance
  pub record AreNoted (from : ℕ) (old new : List ℕ) : Type 0 where
    pub long : length new ≡ length old
    pub kept : EachIndex new (λ j. R ≤ slice_index old j → slice_index new j ≡ slice_index old j)
    pub noted : EachIndex new (λ j. slice_index old j < R → slice_index new j ≡ min (slice_index old j) (distance (slice_index_or rows from []) (slice_index_or rows j [])))

  -- at first no distance is known
  pub reach-init : (old new : List ℕ) (N : ℕ) → 0 < length rows → N < R → AreComparable rows → ((i : ℕ) → i < length rows → sum (slice_index_or rows i []) < N) → length old ≡ length rows →
      EachIndex old (λ j. slice_index old j ≡ R - 1) → AreNoted 0 (set old 0 R) new → IsReached rows R new 0
  reach-init old new N some wide comparable small long unknown n =
      reached-first rows R new some many first others
    where
      many : length new ≡ length rows
      many = n.long ∙ length-set old 0 R ∙ long

      at-first : slice_index (set old 0 R) 0 ≡ R
      at-first = get_or-set_same old 0 R 0 (omega (arith, long, some))

      first : R ≤ slice_index new 0
      first = omega (arith, n.kept 0 (omega (arith, many, some)) (omega (arith, at-first)), at-first)

      others : (j : ℕ) → j ≢ 0 → j < length rows → (slice_index new j < R) × (slice_index new j ≡ distance (slice_index_or rows 0 []) (slice_index_or rows j []))
      others j other l =
          let before : slice_index (set old 0 R) j ≡ R - 1 = get_or-set_other old 0 j R 0 other ∙ unknown j (omega (arith, l, long)) in
          let here = n.noted j (omega (arith, l, many)) (omega (arith, before, wide)) in
          let d = distance-small (slice_index_or rows 0 []) (slice_index_or rows j []) N (small 0 some) (small j l) in
          (omega (arith, here, before, d, wide), omega (arith, here, before, d, wide))

  module _ (near new : List ℕ) (c next : ℕ) (h : IsReached rows R near c) (inside : next < length rows) (open_ : slice_index near next < R)
      (n : AreNoted next (set near next R) new) where
    many_here : length new ≡ length rows
    many_here = n.long ∙ length-set near next R ∙ h.long

    now_here : R ≤ slice_index new next
    now_here =
        let at : slice_index (set near next R) next ≡ R = get_or-set_same near next R 0 (omega (arith, h.long, inside)) in
        omega (arith, n.kept next (omega (arith, many_here, inside)) (omega (arith, at)), at)

    kept_here : (j : ℕ) → j < length rows → R ≤ slice_index near j → R ≤ slice_index new j
    kept_here j l reached =
        let other : j ≢ next = λ e. omega (arith, ap (λ k. slice_index near k) e, open_, reached) in
        let at = get_or-set_other near next j R 0 other in
        omega (arith, n.kept j (omega (arith, many_here, l)) (omega (arith, at, reached)), at)

    -- the nearest place is reached, and the distances from it are noted
    pub reach-step : EachIndex near (λ j. slice_index near next ≤ slice_index near j) → IsReached rows R new (max c (slice_index near next))
    reach-step minimal =
        reached-more rows R near new c next h inside open_ (λ j l. minimal j (omega (arith, h.long, l))) many_here now_here kept_here
        (λ j other l rest.
        let at = get_or-set_other near next j R 0 other in
        n.noted j (omega (arith, many_here, l)) (omega (arith, at, rest)) ∙ ap (λ k. min k (distance (slice_index_or rows next []) (slice_index_or rows j []))) at)

    -- so fewer are open
    pub reach-fewer : open_count R new < open_count R near
    reach-fewer = open-fewer R near new next (omega (arith, many_here, h.long)) (λ j l. kept_here j (omega (arith, h.long, l))) (omega (arith, h.long, inside)) open_ now_here
