-- Sums of k members, by one more member at a time.
use Rattle.std.proofs.Common.{◌≡◌, ℕ, zero, suc, ◌+◌, ◌*◌, ◌↔◌, List, get_or, refl, sym, ap, subst, inl, inr, arith}
use Rattle.std.specs.Prelude.{ℤ, pos, negsuc, neg_ℤ, nat_abs, ◌+ℤ◌, ◌-ℤ◌, ◌<ℤ◌, ◌≤ℤ◌}
use Rattle.std.proofs.lemmas.Int.{ints, by_lt_z}
use Rattle.sg_defs.specs.Membership.{AtNatural, IsMember}
use Rattle.sg_defs.specs.Ideals.{IsInMultiple, RelativeIdeal}
use Rattle.sg_classes.specs.Classes.{IsAboveEntry}
use Rattle.sg_ideal.specs.Value.{IsIn, IsLeast, times}
use Rattle.sg_lawful.specs.declared.limits.TheConstants.{IDEAL_GENERATOR_LIMIT}
use Rattle.sg_lawful.specs.Generators.{IsLarge}
use Rattle.sg_ideal.specs.Classes.{IsFrom, IsIdealTable, IsKept, IsSpread}
use Rattle.sg_ideal.proofs.FromLemmas.{at-natural, natural-at}
use Rattle.sg_ideal.proofs.GenerateLemmas.{above-member}
use Rattle.sg_ideal.proofs.PairLemmas.{listed-member}
use Rattle.sg_ideal.proofs.TableLemmas.{spread-table, spread-from}

-- the list tells the sums of k members
pub record IsFold (J : RelativeIdeal) (k : ℕ) (list : List ℕ) : Type 0 where
  pub table : IsIdealTable J.ambient list
  pub same : (x : ℤ) → IsInMultiple k (IsIn J) x ↔ IsFrom (times k (get_or J.generators 0 (pos 0))) list x

module _ (J : RelativeIdeal) where
  -- sums of one member
  pub fold-one : (t list : List ℕ) → IsKept J.ambient J.generators t → list ≡ t → IsFold J 1 list
  fold-one t list k e = subst (IsFold J 1) (sym e) (record { table = k.table; same = λ x. (to x, from x) })
    where
      to : (x : ℤ) → IsInMultiple 1 (IsIn J) x → IsFrom (times 1 (get_or J.generators 0 (pos 0))) t x
      to x m =
          let f = m.3 in
          let g = m.4 in
          let same : m.0 ≡ x = omega (arith, ints, f, g) in
          let h : x -ℤ get_or J.generators 0 (pos 0) ≡ x -ℤ times 1 (get_or J.generators 0 (pos 0)) = omega (arith, ints) in
          subst (AtNatural (IsAboveEntry t)) h ((k.generates.same x).1 (subst (IsIn J) same m.2))

      from : (x : ℤ) → IsFrom (times 1 (get_or J.generators 0 (pos 0))) t x → IsInMultiple 1 (IsIn J) x
      from x m =
          let h : x -ℤ times 1 (get_or J.generators 0 (pos 0)) ≡ x -ℤ get_or J.generators 0 (pos 0) = omega (arith, ints) in
          (x, pos 0, (k.generates.same x).0 (subst (AtNatural (IsAboveEntry t)) h m), refl, omega (arith, ints))

  -- sums of one member more
  pub fold-more : (k : ℕ) (list next : List ℕ) → IsLeast J.generators (get_or J.generators 0 (pos 0)) → IsSpread list (get_or J.generators 0 (pos 0)) J.generators next → IsFold J k list → IsFold J (k + 1) next
  fold-more k list next least s h = subst (λ n. IsFold J n next) (let e : suc k ≡ k + 1 = omega arith in e) (record {
    table = spread-table J.ambient list (get_or J.generators 0 (pos 0)) J.generators next h.table least s;
    same = λ x. (to x, from x);
  })
    where
      to : (x : ℤ) → IsInMultiple (suc k) (IsIn J) x → IsFrom (times (suc k) (get_or J.generators 0 (pos 0))) next x
      to x m =
          let b = get_or J.generators 0 (pos 0) in
          let B = times k b in
          let y = m.0 in
          let z = m.1 in
          let q = m.2 in
          let g = q.0 in
          let r = at-natural (IsMember J.ambient) (y -ℤ g) q.2 in
          let e = r.1 in
          let f = m.4 in
          let n = at-natural (IsAboveEntry list) (z -ℤ B) ((h.same z).0 m.3) in
          let d = n.1 in
          let moved = above-member J.ambient list h.table n.0 r.0 n.2 r.2 in
          let i : (x -ℤ B) -ℤ g ≡ pos (n.0 + r.0) = omega (arith, ints, d, e, f) in
          let led = (spread-from J.ambient list b J.generators next h.table least s (x -ℤ B)).1 (g, q.1, natural-at (IsAboveEntry list) ((x -ℤ B) -ℤ g) (n.0 + r.0) i moved) in
          let j : (x -ℤ B) -ℤ b ≡ x -ℤ (b +ℤ B) = omega (arith, ints) in
          subst (AtNatural (IsAboveEntry next)) j led

      from : (x : ℤ) → IsFrom (times (suc k) (get_or J.generators 0 (pos 0))) next x → IsInMultiple (suc k) (IsIn J) x
      from x m =
          let b = get_or J.generators 0 (pos 0) in
          let B = times k b in
          let j : x -ℤ (b +ℤ B) ≡ (x -ℤ B) -ℤ b = omega (arith, ints) in
          let p = (spread-from J.ambient list b J.generators next h.table least s (x -ℤ B)).0 (subst (AtNatural (IsAboveEntry next)) j m) in
          let g = p.0 in
          let i : (x -ℤ B) -ℤ g ≡ (x -ℤ g) -ℤ B = omega (arith, ints) in
          (g, x -ℤ g, listed-member J.ambient J.generators g p.1, (h.same (x -ℤ g)).1 (subst (AtNatural (IsAboveEntry list)) i p.2), omega (arith, ints))

  -- what one more member leaves as it is stays so, however many are added
  pub fold-stays : (d k : ℕ) (list : List ℕ) → IsLeast J.generators (get_or J.generators 0 (pos 0)) → IsSpread list (get_or J.generators 0 (pos 0)) J.generators list → IsFold J k list → IsFold J (k + d) list
  fold-stays zero k list least s h = subst (λ n. IsFold J n list) (let e : k ≡ k + 0 = omega arith in e) h
  fold-stays (suc d) k list least s h =
      subst (λ n. IsFold J n list) (let e : (k + d) + 1 ≡ k + suc d = omega arith in e) (fold-more (k + d) list list least s (fold-stays d k list least s h))

-- products by repeated sums
pub times-pos : (k n : ℕ) → times k (pos n) ≡ pos (k * n)
times-pos zero n = let e : 0 ≡ 0 * n = omega arith in ap pos e
times-pos (suc k) n = let h = times-pos k n in omega (arith, ints, h)

pub times-neg : (k n : ℕ) → times k (neg_ℤ (pos n)) ≡ neg_ℤ (pos (k * n))
times-neg zero n = let e : 0 * n ≡ 0 = omega arith in omega (arith, ints, e)
times-neg (suc k) n = let h = times-neg k n in omega (arith, ints, h)

-- k times an integer that is not negative
pub times-above : (k : ℕ) (x : ℤ) → pos 0 ≤ℤ x → times k x ≡ pos (k * nat_abs x)
times-above k (pos n) l = times-pos k n
times-above k (negsuc n) l = absurd (omega (arith, ints, l))

-- k times a negative integer
pub times-below : (k : ℕ) (x : ℤ) → x <ℤ pos 0 → times k x ≡ neg_ℤ (pos (k * nat_abs x))
times-below k (pos n) l = absurd (omega (arith, ints, l))
times-below k (negsuc n) l = times-neg k (suc n)

-- a product past the limit is large
pub times-large : (k : ℕ) (x : ℤ) → IDEAL_GENERATOR_LIMIT ≤ℤ pos (k * nat_abs x) → IsLarge (times k x)
times-large k x l =
    by_lt_z x (pos 0) (λ below. let e = times-below k x below in inl (omega (arith, ints, e, l))) (λ above. let e = times-above k x above in inr (omega (arith, ints, e, l)))
