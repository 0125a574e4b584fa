-- Sums of k members, by how often the distance of each generator from the least member is added.
use Rattle.std.proofs.Common.{◌≡◌, ℕ, zero, suc, ◌+◌, ◌-◌, ◌*◌, ◌<◌, ◌≤◌, List, length, get_or, refl, sym, ap, subst, ◌∙◌, inl, inr, arith}
use Rattle.std.specs.Prelude.{Contains, ℤ, pos, nat_abs, ◌+ℤ◌, ◌-ℤ◌}
use Rattle.std.proofs.lemmas.Bool.{cases_lt}
use Rattle.std.proofs.lemmas.Int.{ints}
use Rattle.std.proofs.lemmas.List.{get_or_default}
use Rattle.sg_defs.specs.Membership.{IsMember}
use Rattle.sg_defs.specs.Ideals.{IsInMultiple, RelativeIdeal}
use Rattle.sg_classes.specs.Classes.{IsAboveEntry}
use Rattle.sg_ideal.specs.Value.{IsIn, IsLeast, times}
use Rattle.sg_ideal.specs.Classes.{IsFrom, IsIdealTable, IsKept, IsReach}
use Rattle.sg_defs.specs.Membership.{AtNatural}
use Rattle.sg_ideal.proofs.FoldLemmas.{IsFold, fold-one}
use Rattle.sg_ideal.proofs.FromLemmas.{at-natural, natural-at}
use Rattle.sg_ideal.proofs.GenerateLemmas.{above-member}
use Rattle.sg_ideal.proofs.PairLemmas.{first-least, listed-member}
use Rattle.sg_ideal.proofs.ReachLemmas.{reach-closed, reach-keeps, reach-low, reach-table}

-- n is how far a sum of k members lies from the least of them
abbrev pub IsApart : RelativeIdeal → ℕ → ℕ → Type 0
IsApart J k n = IsInMultiple k (IsIn J) (times k (get_or J.generators 0 (pos 0)) +ℤ pos n)

module _ (J : RelativeIdeal) where
  apart-same : (k l m n : ℕ) → k ≡ l → m ≡ n → IsApart J k m → IsApart J l n
  apart-same k l m n e f h = subst (λ l. IsApart J l n) e (subst (IsApart J k) f h)

  apart-more : (k n d : ℕ) (g : ℤ) → Contains J.generators g → pos d ≡ g -ℤ get_or J.generators 0 (pos 0) → IsApart J k n → IsApart J (suc k) (n + d)
  apart-more k n d g c e h = (g, times k (get_or J.generators 0 (pos 0)) +ℤ pos n, listed-member J.ambient J.generators g c, h, omega (arith, ints, e))

  pub apart-times : (i k n d : ℕ) (g : ℤ) → Contains J.generators g → pos d ≡ g -ℤ get_or J.generators 0 (pos 0) → IsApart J k n → IsApart J (i + k) (n + i * d)
  apart-times zero k n d g c e h = apart-same k (0 + k) n (n + 0 * d) (omega arith) (omega arith) h
  apart-times (suc i) k n d g c e h =
      apart-same (suc (i + k)) (suc i + k) ((n + i * d) + d) (n + suc i * d) (omega arith) (omega arith) (apart-more (i + k) (n + i * d) d g c e (apart-times i k n d g c e h))

  -- the least member may be added as well
  pub apart-pad : (i k n : ℕ) → Contains J.generators (get_or J.generators 0 (pos 0)) → IsApart J k n → IsApart J (i + k) n
  apart-pad i k n c h =
      let z : pos 0 ≡ get_or J.generators 0 (pos 0) -ℤ get_or J.generators 0 (pos 0) = omega (arith, ints) in
      apart-same (i + k) (i + k) (n + i * 0) n refl (omega arith) (apart-times i k n 0 (get_or J.generators 0 (pos 0)) c z h)

  pub kept-apart : (t : List ℕ) → IsKept J.ambient J.generators t → (n : ℕ) → IsAboveEntry t n → IsApart J 1 n
  kept-apart t k n a =
      let B = times 1 (get_or J.generators 0 (pos 0)) in
      ((fold-one J t t k refl).same (B +ℤ pos n)).1 (natural-at (IsAboveEntry t) ((B +ℤ pos n) -ℤ B) n (omega (arith, ints)) a)

  pub apart-fold : (k : ℕ) (list : List ℕ) → IsIdealTable J.ambient list → ((n : ℕ) → IsAboveEntry list n → IsApart J k n) →
      ((x : ℤ) → IsInMultiple k (IsIn J) x → IsFrom (times k (get_or J.generators 0 (pos 0))) list x) → IsFold J k list
  apart-fold k list h low up = record {
    table = h;
    same = λ x. (
      up x,
      (λ m.
          let B = times k (get_or J.generators 0 (pos 0)) in
          let n = at-natural (IsAboveEntry list) (x -ℤ B) m in
          let f = n.1 in
          let e : B +ℤ pos n.0 ≡ x = omega (arith, ints, f) in
          subst (IsInMultiple k (IsIn J)) e (low n.0 n.2)),
    );
  }

-- no sum of members leaves a set that each distance moves into itself
module _ (J : RelativeIdeal) (t list : List ℕ) (kept : IsKept J.ambient J.generators t) (h : IsIdealTable J.ambient list) (low : (n : ℕ) → IsAboveEntry t n → IsAboveEntry list n)
    (move : (g : ℤ) (n d : ℕ) → Contains J.generators g → pos d ≡ g -ℤ get_or J.generators 0 (pos 0) → IsAboveEntry list n → IsAboveEntry list (n + d)) where
  pub multiple-within : (k : ℕ) (x : ℤ) → IsInMultiple (suc k) (IsIn J) x → IsFrom (times (suc k) (get_or J.generators 0 (pos 0))) list x
  multiple-within zero x m =
      let B = times 1 (get_or J.generators 0 (pos 0)) in
      let n = at-natural (IsAboveEntry t) (x -ℤ B) (((fold-one J t t kept refl).same x).0 m) in
      natural-at (IsAboveEntry list) (x -ℤ B) n.0 n.1 (low n.0 n.2)
  multiple-within (suc k) x m =
      let b = get_or J.generators 0 (pos 0) in
      let B = times (suc k) b in
      let q = m.2 in
      let g = q.0 in
      let r = at-natural (IsMember J.ambient) (m.0 -ℤ g) q.2 in
      let e = r.1 in
      let f = m.4 in
      let n = at-natural (IsAboveEntry list) (m.1 -ℤ B) (multiple-within k m.1 m.3) in
      let i = n.1 in
      let below = (first-least J.ambient J.generators t kept).below g q.1 in
      let d : ℕ = nat_abs (g -ℤ b) in
      let far : pos d ≡ g -ℤ b = omega (arith, ints, below) in
      let moved = move g (n.0 + r.0) d q.1 far (above-member J.ambient list h n.0 r.0 n.2 r.2) in
      natural-at (IsAboveEntry list) (x -ℤ (b +ℤ B)) ((n.0 + r.0) + d) (omega (arith, ints, e, f, i, far)) moved

-- the distances of the first i generators were added, each up to c times
pub record IsGathered (J : RelativeIdeal) (t : List ℕ) (i c : ℕ) (list : List ℕ) : Type 0 where
  pub table : IsIdealTable J.ambient list
  pub low : (n : ℕ) → IsAboveEntry t n → IsAboveEntry list n
  pub within : (n : ℕ) → IsAboveEntry list n → IsApart J (suc (i * c)) n
  pub move : (j d n : ℕ) → j < i → pos d ≡ get_or J.generators j (pos 0) -ℤ get_or J.generators 0 (pos 0) → IsAboveEntry list n → IsAboveEntry list (n + d)

-- no distance was added
pub gather-none : (J : RelativeIdeal) (t : List ℕ) (c : ℕ) (list : List ℕ) → IsKept J.ambient J.generators t → list ≡ t → IsGathered J t 0 c list
gather-none J t c list k e = subst (IsGathered J t 0 c) (sym e) (record {
  table = k.table;
  low = λ n a. a;
  within = λ n a. subst (λ l. IsApart J l n) (let f : 1 ≡ suc (0 * c) = omega arith in f) (kept-apart J t k n a);
  move = λ j d n l f a. absurd (omega (arith, l));
})

module _ (J : RelativeIdeal) (t : List ℕ) (i c : ℕ) (list now : List ℕ) (d : ℕ) (least : IsLeast J.generators (get_or J.generators 0 (pos 0))) (inside : i < length J.generators) (often : c ≡ length list)
    (far : pos d ≡ get_or J.generators i (pos 0) -ℤ get_or J.generators 0 (pos 0)) (r : IsReach list d c now) (h : IsGathered J t i c list) where
  within : (n : ℕ) → IsAboveEntry now n → IsApart J (suc ((i + 1) * c)) n
  within n a =
      let p = (r.same n).0 a in
      let l = p.1 in
      let m = p.2 in
      let g = get_or J.generators i (pos 0) in
      let listed : Contains J.generators g = (i, inside, get_or_default J.generators i g (pos 0) inside) in
      let s = apart-times J p.0 (suc (i * c)) (n - p.0 * d) d g listed far (h.within (n - p.0 * d) p.3) in
      let e : (c - p.0) + (p.0 + suc (i * c)) ≡ suc ((i + 1) * c) = omega (arith, l) in
      let f : (n - p.0 * d) + p.0 * d ≡ n = omega (arith, m) in
      subst (λ k. IsApart J k n) e (subst (IsApart J ((c - p.0) + (p.0 + suc (i * c)))) f (apart-pad J (c - p.0) (p.0 + suc (i * c)) ((n - p.0 * d) + p.0 * d) least.listed s))

  move : (j b n : ℕ) → j < i + 1 → pos b ≡ get_or J.generators j (pos 0) -ℤ get_or J.generators 0 (pos 0) → IsAboveEntry now n → IsAboveEntry now (n + b)
  move j b n l f a = elim (cases_lt j i) [
    | inl less ↦ reach-keeps list d c now r b (λ n a. h.move j b n less f a) n a
    | inr more ↦
        let at : j ≡ i = omega (arith, l, more) in
        let g = ap (λ j. get_or J.generators j (pos 0)) at in
        let e : d ≡ b = omega (arith, ints, f, g, far) in
        subst (λ b. IsAboveEntry now (n + b)) e (reach-closed list d c now r often h.table.classes.not_empty n a)
  ]

  -- the distance of one more generator
  pub gather-more : IsGathered J t (i + 1) c now
  gather-more = record {
    table = reach-table list d c now r J.ambient h.table;
    low = λ n a. reach-low list d c now r n (h.low n a);
    within = within;
    move = move;
  }

-- where all were, they are the sums of k members
pub gather-all : (J : RelativeIdeal) (t : List ℕ) (i c k : ℕ) (list : List ℕ) → IsKept J.ambient J.generators t → i ≡ length J.generators → i * c < k → IsGathered J t i c list → IsFold J k list
gather-all J t i c k list kept all many h = apart-fold J k list h.table low up
  where
    low : (n : ℕ) → IsAboveEntry list n → IsApart J k n
    low n a =
        let e : (k - suc (i * c)) + suc (i * c) ≡ k = omega (arith, many) in
        subst (λ k. IsApart J k n) e (apart-pad J (k - suc (i * c)) (suc (i * c)) n (first-least J.ambient J.generators t kept).listed (h.within n a))

    move : (g : ℤ) (n d : ℕ) → Contains J.generators g → pos d ≡ g -ℤ get_or J.generators 0 (pos 0) → IsAboveEntry list n → IsAboveEntry list (n + d)
    move g n d c far a =
        let e : get_or J.generators c.0 (pos 0) ≡ g = get_or_default J.generators c.0 (pos 0) g c.1 ∙ c.2 in
        let l = c.1 in
        h.move c.0 d n (omega (arith, l, all)) (omega (arith, ints, e, far)) a

    up : (x : ℤ) → IsInMultiple k (IsIn J) x → IsFrom (times k (get_or J.generators 0 (pos 0))) list x
    up x m =
        let e : k ≡ suc (k - 1) = omega (arith, many) in
        let r = multiple-within J t list kept h.table h.low move (k - 1) x (subst (λ k. IsInMultiple k (IsIn J) x) e m) in
        subst (λ k. IsFrom (times k (get_or J.generators 0 (pos 0))) list x) (sym e) r

-- of two generators only the second lies apart
module _ (J : RelativeIdeal) (t : List ℕ) (d : ℕ) (kept : IsKept J.ambient J.generators t) (two : length J.generators ≡ 2) (far : pos d ≡ get_or J.generators 1 (pos 0) -ℤ get_or J.generators 0 (pos 0)) where
  abbrev IsLed : ℕ → ℕ → Type 0
  IsLed k n = (e : ℕ) × (e ≤ k) × (e * d ≤ n) × IsAboveEntry t (n - e * d)

  led : (k : ℕ) (x : ℤ) → IsInMultiple (suc k) (IsIn J) x → AtNatural (IsLed k) (x -ℤ times (suc k) (get_or J.generators 0 (pos 0)))
  led zero x m =
      let B = times 1 (get_or J.generators 0 (pos 0)) in
      let n = at-natural (IsAboveEntry t) (x -ℤ B) (((fold-one J t t kept refl).same x).0 m) in
      let f : n.0 ≡ n.0 - 0 * d = omega arith in
      natural-at (IsLed 0) (x -ℤ B) n.0 n.1 (0, omega arith, omega arith, subst (IsAboveEntry t) f n.2)
  led (suc k) x m =
      let b = get_or J.generators 0 (pos 0) in
      let B = times (suc k) b in
      let q = m.2 in
      let g = q.0 in
      let r = at-natural (IsMember J.ambient) (m.0 -ℤ g) q.2 in
      let e = r.1 in
      let f = m.4 in
      let n = at-natural (IsLed k) (m.1 -ℤ B) (led k m.1 m.3) in
      let i = n.1 in
      let p = n.2 in
      let l = p.1 in
      let u = p.2 in
      let place = q.1.1 in
      let here : get_or J.generators q.1.0 (pos 0) ≡ g = get_or_default J.generators q.1.0 (pos 0) g q.1.1 ∙ q.1.2 in
      let added = above-member J.ambient t kept.table (n.0 - p.0 * d) r.0 p.3 r.2 in
      elim (cases_lt 0 q.1.0) [
        | inr first ↦
            let at : q.1.0 ≡ 0 = omega (arith, first) in
            let same = ap (λ j. get_or J.generators j (pos 0)) at in
            let s : (n.0 - p.0 * d) + r.0 ≡ (n.0 + r.0) - p.0 * d = omega (arith, u) in
            natural-at (IsLed (suc k)) (x -ℤ (b +ℤ B)) (n.0 + r.0) (omega (arith, ints, e, f, i, here, same)) (p.0, omega (arith, l), omega (arith, u), subst (IsAboveEntry t) s added)
        | inl second ↦
            let at : q.1.0 ≡ 1 = omega (arith, second, place, two) in
            let same = ap (λ j. get_or J.generators j (pos 0)) at in
            let v : (p.0 + 1) * d ≡ p.0 * d + d = omega arith in
            let s : (n.0 - p.0 * d) + r.0 ≡ ((n.0 + r.0) + d) - (p.0 + 1) * d = omega (arith, u, v) in
            natural-at (IsLed (suc k)) (x -ℤ (b +ℤ B)) ((n.0 + r.0) + d) (omega (arith, ints, e, f, i, here, same, far)) (p.0 + 1, omega (arith, l), omega (arith, u, v), subst (IsAboveEntry t) s added)
      ]

  -- of two generators, sums by the second distance alone
  pub pair-fold : (k : ℕ) (list : List ℕ) → 0 < k → IsReach t d (k - 1) list → IsFold J k list
  pair-fold k list positive r = apart-fold J k list (reach-table t d (k - 1) list r J.ambient kept.table) low up
    where
      least : IsLeast J.generators (get_or J.generators 0 (pos 0))
      least = first-least J.ambient J.generators t kept

      low : (n : ℕ) → IsAboveEntry list n → IsApart J k n
      low n a =
          let p = (r.same n).0 a in
          let l = p.1 in
          let m = p.2 in
          let g = get_or J.generators 1 (pos 0) in
          let inside : 1 < length J.generators = omega (arith, two) in
          let listed : Contains J.generators g = (1, inside, get_or_default J.generators 1 g (pos 0) inside) in
          let s = apart-times J p.0 1 (n - p.0 * d) d g listed far (kept-apart J t kept (n - p.0 * d) p.3) in
          let e : (k - 1 - p.0) + (p.0 + 1) ≡ k = omega (arith, l, positive) in
          let f : (n - p.0 * d) + p.0 * d ≡ n = omega (arith, m) in
          subst (λ k. IsApart J k n) e (subst (IsApart J ((k - 1 - p.0) + (p.0 + 1))) f (apart-pad J (k - 1 - p.0) (p.0 + 1) ((n - p.0 * d) + p.0 * d) least.listed s))

      up : (x : ℤ) → IsInMultiple k (IsIn J) x → IsFrom (times k (get_or J.generators 0 (pos 0))) list x
      up x m =
          let e : k ≡ suc (k - 1) = omega (arith, positive) in
          let B = times (suc (k - 1)) (get_or J.generators 0 (pos 0)) in
          let n = at-natural (IsLed (k - 1)) (x -ℤ B) (led (k - 1) x (subst (λ k. IsInMultiple k (IsIn J) x) e m)) in
          subst (λ k. IsFrom (times k (get_or J.generators 0 (pos 0))) list x) (sym e) (natural-at (IsAboveEntry list) (x -ℤ B) n.0 n.1 ((r.same n.0).1 n.2))
