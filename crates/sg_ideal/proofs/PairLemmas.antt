-- Sums, differences and intersections by their tables.
use Rattle.std.proofs.Common.{◌≡◌, ℕ, ◌+◌, ◌↔◌, List, length, get_or, sym, ap, subst, ◌∙◌, inl, inr, arith}
use Rattle.std.specs.Prelude.{Contains, ℤ, pos, nat_abs, ◌+ℤ◌, ◌-ℤ◌, ◌⊎◌}
use Rattle.std.proofs.lemmas.Int.{ints}
use Rattle.std.proofs.lemmas.Bool.{cases_lt}
use Rattle.std.proofs.lemmas.List.{get_or_default}
use Rattle.std.proofs.lemmas.List.Elements.{Contains-get_or}
use Rattle.sg_defs.specs.Membership.{AtNatural, IsMember}
use Rattle.sg_defs.specs.Ideals.{IsIdealMember, IsInSum, IsInDifference, RelativeIdeal}
use Rattle.sg_defs.proofs.MembershipLemmas.{member-zero}
use Rattle.sg_classes.specs.Classes.{IsAboveEntry}
use Rattle.std.proofs.Common.{to_z, of_z, w64}
use Rattle.sg_ideal.specs.Value.{IsIn, IsInBoth, IsLeast}
use Rattle.sg_lawful.specs.Generators.{IsSmall}
use Rattle.sg_ideal.specs.Classes.{AreClasses, IsClosedTable, IsFrom, IsIdealTable, IsKept, IsRebased, IsReduced, IsSpread}
use Rattle.sg_ideal.proofs.FromLemmas.{at-natural, natural-at}
use Rattle.sg_ideal.proofs.GenerateLemmas.{above-member}
use Rattle.sg_ideal.proofs.TableLemmas.{spread-table, spread-from}

-- the first of an ascending list is the least
pub first-least : (G : List ℕ) (I : List ℤ) (t : List ℕ) → IsKept G I t → IsLeast I (get_or I 0 (pos 0))
first-least G I t k = record {
  listed = Contains-get_or I 0 (pos 0) k.generates.not_empty;
  below = λ y c.
      let e : get_or I c.0 (pos 0) ≡ y = get_or_default I c.0 (pos 0) y c.1 ∙ c.2 in
      elim (cases_lt 0 c.0) [
        | inl less ↦ let o = k.generates.minimal.ascending 0 c.0 (pos 0) less c.1 in omega (arith, ints, e, o)
        | inr none ↦ let at : 0 ≡ c.0 = omega arith in let f = ap (λ i. get_or I i (pos 0)) at in omega (arith, ints, e, f)
      ];
}

-- a member and a member of the semigroup
pub kept-add : (G : List ℕ) (I : List ℤ) (t : List ℕ) → IsKept G I t → (x : ℤ) (s : ℕ) → IsIdealMember G I x → IsMember G s → IsIdealMember G I (x +ℤ pos s)
kept-add G I t k x s m q =
    let a = get_or I 0 (pos 0) in
    let n = at-natural (IsAboveEntry t) (x -ℤ a) ((k.generates.same x).1 m) in
    let e = n.1 in
    (k.generates.same (x +ℤ pos s)).0 (natural-at (IsAboveEntry t) ((x +ℤ pos s) -ℤ a) (n.0 + s) (omega (arith, ints, e)) (above-member G t k.table n.0 s n.2 q))

-- a generator is a member
pub listed-member : (G : List ℕ) (I : List ℤ) (g : ℤ) → Contains I g → IsIdealMember G I g
listed-member G I g c = let e : g -ℤ g ≡ pos 0 = omega (arith, ints) in (g, c, natural-at (IsMember G) (g -ℤ g) 0 e (member-zero G))

module _ (I J : RelativeIdeal) (t list : List ℕ) (i : IsKept I.ambient I.generators t) (least : IsLeast J.generators (get_or J.generators 0 (pos 0))) (paired : I.ambient ≡ J.ambient)
    (s : IsSpread t (get_or J.generators 0 (pos 0)) J.generators list) where
  -- the sums are told by a table
  pub sum-table : IsIdealTable I.ambient list
  sum-table = spread-table I.ambient t (get_or J.generators 0 (pos 0)) J.generators list i.table least s

  -- that tells exactly them
  pub sum-same : (x : ℤ) → IsInSum (IsIn I) (IsIn J) x ↔ IsFrom (get_or I.generators 0 (pos 0) +ℤ get_or J.generators 0 (pos 0)) list x
  sum-same x =
      let a = get_or I.generators 0 (pos 0) in
      let b = get_or J.generators 0 (pos 0) in
      let both = spread-from I.ambient t b J.generators list i.table least s (x -ℤ a) in
      let e : (x -ℤ a) -ℤ b ≡ x -ℤ (a +ℤ b) = omega (arith, ints) in (
        (λ m.
            let y = m.0 in
            let q = m.3 in
            let g = q.0 in
            let r = at-natural (IsMember J.ambient) (m.1 -ℤ g) q.2 in
            let f = r.1 in
            let xe = m.4 in
            let moved = kept-add I.ambient I.generators t i y r.0 m.2 (subst (λ G. IsMember G r.0) (sym paired) r.2) in
            let n = (i.generates.same (y +ℤ pos r.0)).1 moved in
            let h : (y +ℤ pos r.0) -ℤ a ≡ (x -ℤ a) -ℤ g = omega (arith, ints, f, xe) in
            subst (AtNatural (IsAboveEntry list)) e (both.1 (g, q.1, subst (AtNatural (IsAboveEntry t)) h n))),
        (λ m.
            let p = both.0 (subst (AtNatural (IsAboveEntry list)) (sym e) m) in
            let h : (x -ℤ a) -ℤ p.0 ≡ (x -ℤ p.0) -ℤ a = omega (arith, ints) in
            let y = (i.generates.same (x -ℤ p.0)).0 (subst (AtNatural (IsAboveEntry t)) h p.2) in
            (x -ℤ p.0, p.0, y, listed-member J.ambient J.generators p.0 p.1, omega (arith, ints))),
      )

-- the base and the list as they are passed
pub passed-least : (I L : List ℤ) (l : ℤ) → L ≡ I → IsSmall l → IsLeast I l → IsLeast L (to_z w64 (of_z w64 l))
passed-least I L l e small h =
    let back : l ≡ to_z w64 (of_z w64 l) = omega (arith, ints, small) in
    subst (λ L. IsLeast L (to_z w64 (of_z w64 l))) (sym e) (subst (IsLeast I) back h)

-- what was spread, by the least generator as it is passed
pub passed-spread : (t list : List ℕ) (I L : List ℤ) (l : ℤ) → L ≡ I → IsSmall l → IsSpread t (to_z w64 (of_z w64 l)) L list → IsSpread t l I list
passed-spread t list I L l e small h =
    let back : to_z w64 (of_z w64 l) ≡ l = omega (arith, ints, small) in
    subst (λ b. IsSpread t b I list) back (subst (λ L. IsSpread t (to_z w64 (of_z w64 l)) L list) e h)

-- what two ideals have in common
module _ (I J : RelativeIdeal) (t u first list : List ℕ) (p q : ℕ) (base : ℤ) (i : IsKept I.ambient I.generators t) (j : IsKept J.ambient J.generators u) (paired : I.ambient ≡ J.ambient)
    (r : IsRebased t p first) (long : length list ≡ length first) (classes : AreClasses list) (same : (n : ℕ) → IsAboveEntry list n ↔ (IsAboveEntry first n × IsAboveEntry u (n + q)))
    (pe : pos p ≡ base -ℤ get_or I.generators 0 (pos 0)) (qe : pos q ≡ base -ℤ get_or J.generators 0 (pos 0))
    (one : (base ≡ get_or I.generators 0 (pos 0)) ⊎ (base ≡ get_or J.generators 0 (pos 0))) where
  both-above : (n : ℕ) → IsAboveEntry list n ↔ (IsAboveEntry t (n + p) × IsAboveEntry u (n + q))
  both-above n = (
    (λ a. let m = (same n).0 a in ((r.same n).0 m.0, m.1)),
    (λ m. (same n).1 ((r.same n).1 m.0, m.1)),
  )

  -- what is in both is told by a table
  pub common-table : IsClosedTable I.ambient list
  common-table = record {
    ambient = i.table.ambient;
    classes = classes;
    multiplicity = long ∙ r.long ∙ i.table.multiplicity;
    closed = λ n g listed a.
        let m = (both-above n).0 a in
        let e : (n + p) + g ≡ (n + g) + p = omega arith in
        let f : (n + q) + g ≡ (n + g) + q = omega arith in
        (both-above (n + g)).1 (
          subst (IsAboveEntry t) e (i.table.closed (n + p) g listed m.0),
          subst (IsAboveEntry u) f (j.table.closed (n + q) g (subst (λ G. Contains G g) paired listed) m.1),
        );
  }

  -- that tells exactly it
  pub common-same : (x : ℤ) → IsInBoth (IsIn I) (IsIn J) x ↔ IsFrom base list x
  common-same x = (to, from)
    where
      to : IsInBoth (IsIn I) (IsIn J) x → IsFrom base list x
      to m =
          let v = at-natural (IsAboveEntry t) (x -ℤ get_or I.generators 0 (pos 0)) ((i.generates.same x).1 m.0) in
          let w = at-natural (IsAboveEntry u) (x -ℤ get_or J.generators 0 (pos 0)) ((j.generates.same x).1 m.1) in
          let e = v.1 in
          let f = w.1 in
          let n : ℕ = nat_abs (x -ℤ base) in
          let g : x -ℤ base ≡ pos n = elim one [ inl o ↦ omega (arith, ints, o, e) | inr o ↦ omega (arith, ints, o, f) ] in
          let h : v.0 ≡ n + p = omega (arith, ints, e, g, pe) in
          let k : w.0 ≡ n + q = omega (arith, ints, f, g, qe) in
          natural-at (IsAboveEntry list) (x -ℤ base) n g ((both-above n).1 (subst (IsAboveEntry t) h v.2, subst (IsAboveEntry u) k w.2))

      from : IsFrom base list x → IsInBoth (IsIn I) (IsIn J) x
      from m =
          let n = at-natural (IsAboveEntry list) (x -ℤ base) m in
          let e = n.1 in
          let a = (both-above n.0).0 n.2 in (
            (i.generates.same x).0 (natural-at (IsAboveEntry t) (x -ℤ get_or I.generators 0 (pos 0)) (n.0 + p) (omega (arith, ints, e, pe)) a.0),
            (j.generates.same x).0 (natural-at (IsAboveEntry u) (x -ℤ get_or J.generators 0 (pos 0)) (n.0 + q) (omega (arith, ints, e, qe)) a.1),
          )

-- what moves one ideal into another
module _ (I J : RelativeIdeal) (t list : List ℕ) (i : IsKept I.ambient I.generators t) (least : IsLeast J.generators (get_or J.generators 0 (pos 0))) (paired : I.ambient ≡ J.ambient)
    (s : IsReduced t (get_or J.generators 0 (pos 0)) J.generators list) where
  -- the differences are told by a table
  pub difference-table : IsClosedTable I.ambient list
  difference-table = record {
    ambient = i.table.ambient;
    classes = s.classes;
    multiplicity = s.long ∙ i.table.multiplicity;
    closed = λ n g listed a. (s.same (n + g)).1 (λ h c.
        let b = get_or J.generators 0 (pos 0) in
        let m = at-natural (IsAboveEntry t) ((h +ℤ pos n) -ℤ b) ((s.same n).0 a h c) in
        let e = m.1 in
        natural-at (IsAboveEntry t) ((h +ℤ pos (n + g)) -ℤ b) (m.0 + g) (omega (arith, ints, e)) (i.table.closed m.0 g listed m.2));
  }

  -- that tells exactly them
  pub difference-same : (x : ℤ) → IsInDifference (IsIn I) (IsIn J) x ↔ IsFrom (get_or I.generators 0 (pos 0) -ℤ get_or J.generators 0 (pos 0)) list x
  difference-same x = (to, from)
    where
      to : IsInDifference (IsIn I) (IsIn J) x → IsFrom (get_or I.generators 0 (pos 0) -ℤ get_or J.generators 0 (pos 0)) list x
      to m =
          let a = get_or I.generators 0 (pos 0) in
          let b = get_or J.generators 0 (pos 0) in
          let n = at-natural (IsAboveEntry t) ((x +ℤ b) -ℤ a) ((i.generates.same (x +ℤ b)).1 (m b (listed-member J.ambient J.generators b least.listed))) in
          let e = n.1 in
          let f : x -ℤ (a -ℤ b) ≡ pos n.0 = omega (arith, ints, e) in
          natural-at (IsAboveEntry list) (x -ℤ (a -ℤ b)) n.0 f ((s.same n.0).1 (λ g c.
          let k = (i.generates.same (x +ℤ g)).1 (m g (listed-member J.ambient J.generators g c)) in
          let h : (x +ℤ g) -ℤ a ≡ (g +ℤ pos n.0) -ℤ b = omega (arith, ints, f) in
          subst (AtNatural (IsAboveEntry t)) h k))

      from : IsFrom (get_or I.generators 0 (pos 0) -ℤ get_or J.generators 0 (pos 0)) list x → IsInDifference (IsIn I) (IsIn J) x
      from m y q =
          let a = get_or I.generators 0 (pos 0) in
          let b = get_or J.generators 0 (pos 0) in
          let n = at-natural (IsAboveEntry list) (x -ℤ (a -ℤ b)) m in
          let e = n.1 in
          let r = at-natural (IsMember J.ambient) (y -ℤ q.0) q.2 in
          let f = r.1 in
          let k = at-natural (IsAboveEntry t) ((q.0 +ℤ pos n.0) -ℤ b) ((s.same n.0).0 n.2 q.0 q.1) in
          let g = k.1 in
          let h : (x +ℤ y) -ℤ a ≡ pos (k.0 + r.0) = omega (arith, ints, e, f, g) in
          (i.generates.same (x +ℤ y)).0 (natural-at (IsAboveEntry t) ((x +ℤ y) -ℤ a) (k.0 + r.0) h
          (above-member I.ambient t i.table k.0 r.0 k.2 (subst (λ G. IsMember G r.0) (sym paired) r.2)))

-- what was reduced, by the least generator as it is passed
pub passed-reduced : (t list : List ℕ) (I L : List ℤ) (l : ℤ) → L ≡ I → IsSmall l → l ≡ get_or I 0 (pos 0) → IsReduced t (to_z w64 (of_z w64 l)) L list → IsReduced t (get_or I 0 (pos 0)) I list
passed-reduced t list I L l e small first h =
    let back : to_z w64 (of_z w64 l) ≡ get_or I 0 (pos 0) = omega (arith, ints, small, first) in
    subst (λ b. IsReduced t b I list) back (subst (λ L. IsReduced t (to_z w64 (of_z w64 l)) L list) e h)
