-- There is a table of the sums of k members, and with it a list of minimal generators.
use Rattle.std.proofs.Common.{◌≡◌, ℕ, zero, suc, ◌+◌, ◌-◌, ◌%◌, ◌<◌, ◌≤◌, ◌↔◌, List, length, get_or, map, min, refl, subst, arith}
use Rattle.std.specs.Prelude.{ℤ, pos, nat_abs, ◌-ℤ◌, ◌⊎◌}
use Rattle.std.specs.List.{range_with_len}
use Rattle.std.proofs.lemmas.Int.{ints}
use Rattle.std.proofs.lemmas.List.{get_or_default}
use Rattle.std.proofs.lemmas.List.FromFn.{get_or-map-range_with_len, length-map-range_with_len}
use Rattle.sg_defs.specs.Ideals.{IsInMultiple, RelativeIdeal}
use Rattle.sg_classes.specs.Classes.{IsAboveEntry}
use Rattle.sg_ideal.specs.Value.{HasLargeGenerator, IsIn, IsLeast, times}
use Rattle.sg_lawful.specs.Generators.{IsLarge}
use Rattle.sg_ideal.specs.Classes.{AreClasses, IsFrom, IsKept, IsSpread}
use Rattle.sg_ideal.proofs.ExistLemmas.{large-base}
use Rattle.sg_ideal.proofs.ExtendLemmas.{extended-classes, extended-same}
use Rattle.sg_ideal.proofs.FaultLemmas.{large-same}
use Rattle.sg_ideal.proofs.FoldLemmas.{IsFold, fold-more, fold-one}
use Rattle.sg_ideal.proofs.PairLemmas.{first-least}
use Rattle.sg_ideal.proofs.SpreadLemmas.{IsSpreadSoFar, spread-all, spread-more, spread-none}

module _ (old other : List ℕ) (b : ℕ) (o : AreClasses old) (p : AreClasses other) (long : length old ≡ length other) where
  lesser : ℕ → ℕ
  lesser k = min (get_or old k 0) (b + get_or other ((k + (length other - b % length other)) % length other) 0)

  union : List ℕ
  union = map lesser (range_with_len 0 (length old))

  union-long : length union ≡ length old
  unfolding union
  union-long = length-map-range_with_len lesser 0 (length old)

  union-each : (k : ℕ) → k < length other → get_or union k 0 ≡ min (get_or old k 0) (b + get_or other ((k + (length other - b % length other)) % length other) 0)
  unfolding union lesser
  union-each k l = get_or-map-range_with_len lesser 0 (length old) k k 0 (omega (arith, long, l)) (omega arith)

  union-exists : (now : List ℕ) × (length now ≡ length old) × AreClasses now × ((n : ℕ) → IsAboveEntry now n ↔ (IsAboveEntry old n ⊎ ((b ≤ n) × IsAboveEntry other (n - b))))
  union-exists = (union, union-long, extended-classes old other union b o p long union-long union-each, extended-same old other union b o p long union-long union-each)

module _ (t : List ℕ) (base : ℤ) (I : List ℤ) (c : AreClasses t) (least : IsLeast I base) where
  so-far : (k : ℕ) → k ≤ length I → (list : List ℕ) × IsSpreadSoFar t base I k list
  so-far zero l = (t, spread-none t base I t c refl)
  so-far (suc k) l =
      let before = so-far k (omega (arith, l)) in
      let g = get_or I k (pos 0) in
      let inside : k < length I = omega (arith, l) in
      let low = least.below g (k, inside, get_or_default I k g (pos 0) inside) in
      let b : ℕ = nat_abs (g -ℤ base) in
      let e : pos b ≡ g -ℤ base = omega (arith, ints, low) in
      let u = union-exists before.0 t b before.1.classes c before.1.long in
      (u.0, subst (λ k. IsSpreadSoFar t base I k u.0) (let f : k + 1 ≡ suc k = omega arith in f) (spread-more t base I k before.0 u.0 b e u.1 u.2 u.3 before.1))

  spread-exists : (list : List ℕ) × IsSpread t base I list
  spread-exists =
      let all = so-far (length I) (omega arith) in
      (all.0, spread-all t base I (length I) all.0 least.listed refl all.1)

module _ (J : RelativeIdeal) (t : List ℕ) (kept : IsKept J.ambient J.generators t) where
  fold-exists : (k : ℕ) → (list : List ℕ) × IsFold J (suc k) list
  fold-exists zero = (t, fold-one J t t kept refl)
  fold-exists (suc k) =
      let before = fold-exists k in
      let least = first-least J.ambient J.generators t kept in
      let s = spread-exists before.0 (get_or J.generators 0 (pos 0)) J.generators before.1.table.classes least in
      (s.0, subst (λ k. IsFold J k s.0) (let f : suc k + 1 ≡ suc (suc k) = omega arith in f) (fold-more J (suc k) before.0 s.0 least s.1 before.1))

  -- the least sum is a minimal generator
  pub multiple-large : (k : ℕ) → 0 < k → IsLarge (times k (get_or J.generators 0 (pos 0))) → HasLargeGenerator J.ambient (IsInMultiple k (IsIn J))
  multiple-large k positive large =
      let b = get_or J.generators 0 (pos 0) in
      let e : suc (k - 1) ≡ k = omega (arith, positive) in
      let list = (fold-exists (k - 1)).0 in
      let h = subst (λ k. IsFold J k list) e (fold-exists (k - 1)).1 in
      large-same J.ambient (IsFrom (times k b) list) (IsInMultiple k (IsIn J)) h.same (large-base J.ambient list h.table (times k b) large)
