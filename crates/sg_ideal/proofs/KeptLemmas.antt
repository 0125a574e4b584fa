-- The heads and the base are the minimal generators of an ideal.
use Rattle.std.proofs.Common.{◌≡◌, ◌≢◌, ℕ, ◌+◌, ◌<◌, ◌↔◌, List, length, get_or, sym, ap, subst, ◌∙◌, inl, inr, arith}
use Rattle.std.specs.Prelude.{Contains, AllPairs, ℤ, pos, ◌+ℤ◌, ◌-ℤ◌, ◌<ℤ◌}
use Rattle.std.proofs.lemmas.Int.{ints}
use Rattle.std.proofs.lemmas.List.{get_or-map, length-map}
use Rattle.std.proofs.lemmas.List.Elements.{Contains-get_or}
use Rattle.std.proofs.lemmas.List.Kept.{AllPairs-from_increasing}
use Rattle.std.proofs.lemmas.Bool.{cases_lt}
use Rattle.sg_defs.specs.Listings.{Lists}
use Rattle.sg_defs.specs.Membership.{IsMember, IsIntegerMember}
use Rattle.sg_defs.specs.Ideals.{IsIdealMember}
use Rattle.sg_classes.specs.Classes.{IsAboveEntry}
use Rattle.sg_ideal.specs.Value.{GeneratesIdeal}
use Rattle.sg_lawful.specs.Generators.{AreSmall}
use Rattle.sg_ideal.specs.Classes.{IsFrom, IsIdealTable, IsKept}
use Rattle.sg_ideal.specs.Heads.{IsHead, raised_by}
use Rattle.sg_ideal.proofs.FromLemmas.{at-natural, natural-at}
use Rattle.sg_ideal.proofs.GenerateLemmas.{above-member, generated, head-zero, heads-apart}

-- what is listed after the base was added
pub raised-from : (base : ℤ) (H : List ℕ) (x : ℤ) → Contains (raised_by base H) x → (w : ℕ) × Contains H w × (x ≡ base +ℤ pos w)
raised-from base H x q =
    let long = length-map H (λ h. base +ℤ pos h) in
    let inside : q.0 < length H = omega (arith, q.1) in
    let e : base +ℤ pos (get_or H q.0 0) ≡ x = sym (get_or-map (λ h. base +ℤ pos h) H q.0 0 x inside) ∙ q.2 in
    (get_or H q.0 0, Contains-get_or H q.0 0 inside, sym e)

-- a listed number, with the base
pub raised-to : (base : ℤ) (H : List ℕ) (w : ℕ) → Contains H w → Contains (raised_by base H) (base +ℤ pos w)
raised-to base H w c =
    let x = base +ℤ pos w in
    let at = get_or-map (λ h. base +ℤ pos h) H c.0 w x c.1 in
    (c.0, omega (arith, length-map H (λ h. base +ℤ pos h), c.1), at ∙ ap (λ h. base +ℤ pos h) c.2)

module _ (G t H : List ℕ) (base : ℤ) (h : IsIdealTable G t) (l : Lists (IsHead G t) H) where
  ascending : AllPairs (λ x y. x <ℤ y) (raised_by base H)
  ascending i j d less inside =
      let long = length-map H (λ h. base +ℤ pos h) in
      let a = get_or-map (λ h. base +ℤ pos h) H i 0 d (omega arith) in
      let b = get_or-map (λ h. base +ℤ pos h) H j 0 d (omega arith) in
      let o = AllPairs-from_increasing H l.ascending i j 0 less (omega arith) in
      let r : (base +ℤ pos (get_or H i 0)) <ℤ (base +ℤ pos (get_or H j 0)) = omega (arith, ints) in
      rw (a, b) r

  needed : (x y : ℤ) → Contains (raised_by base H) x → Contains (raised_by base H) y → x ≢ y → IsIntegerMember G (x -ℤ y) → ⊥
  needed x y p q other m =
      let v = raised-from base H x p in
      let w = raised-from base H y q in
      let s = at-natural (IsMember G) (x -ℤ y) m in
      let e = v.2 in
      let f = w.2 in
      let g = s.1 in
      let sum : v.0 ≡ w.0 + s.0 = omega (arith, ints, e, f, g) in
      let none = heads-apart G t h v.0 w.0 s.0 ((l.exactly v.0).0 v.1) ((l.exactly w.0).0 w.1) s.2 sum in
      let same : x ≡ y = omega (arith, ints, e, f, g, none) in
      other same

  same : (x : ℤ) → IsFrom base t x ↔ IsIdealMember G (raised_by base H) x
  same x = (to, from)
    where
      to : IsFrom base t x → IsIdealMember G (raised_by base H) x
      to p =
          let n = at-natural (IsAboveEntry t) (x -ℤ base) p in
          let r = generated G t h n.0 n.2 in
          let e = n.1 in
          let f = r.4 in
          (base +ℤ pos r.0, raised-to base H r.0 ((l.exactly r.0).1 r.2), natural-at (IsMember G) (x -ℤ (base +ℤ pos r.0)) r.1 (omega (arith, ints, e, f)) r.3)

      from : IsIdealMember G (raised_by base H) x → IsFrom base t x
      from p =
          let w = raised-from base H p.0 p.1 in
          let s = at-natural (IsMember G) (x -ℤ p.0) p.2 in
          let e = w.2 in
          let f = s.1 in
          natural-at (IsAboveEntry t) (x -ℤ base) (w.0 + s.0) (omega (arith, ints, e, f)) (above-member G t h w.0 s.0 ((l.exactly w.0).0 w.1).0 s.2)

  listed-zero : Contains H 0
  listed-zero = (l.exactly 0).1 (head-zero G t h)

  heads-long : 0 < length H
  heads-long = let p = listed-zero.1 in omega arith

  -- the minimal generators of the set, with the base, are those of the ideal
  pub heads-generate : GeneratesIdeal G (IsFrom base t) (raised_by base H)
  heads-generate = record {
    not_empty = omega (arith, length-map H (λ h. base +ℤ pos h), heads-long);
    minimal = record { ascending = ascending; needed = needed };
    same = same;
  }

  first-zero : get_or H 0 0 ≡ 0
  first-zero =
      let z = listed-zero in
      let e : get_or H z.0 0 ≡ 0 = z.2 in
      elim (cases_lt 0 z.0) [
        | inl less ↦ omega (arith, e, AllPairs-from_increasing H l.ascending 0 z.0 0 less z.1)
        | inr more ↦ let at : 0 ≡ z.0 = omega arith in ap (λ k. get_or H k 0) at ∙ e
      ]

  first-base : get_or (raised_by base H) 0 (pos 0) ≡ base
  first-base = get_or-map (λ h. base +ℤ pos h) H 0 0 (pos 0) heads-long ∙ ap (λ k. base +ℤ pos k) first-zero ∙ omega (arith, ints)

  -- so the table may be kept
  pub heads-kept : AreSmall (raised_by base H) → IsKept G (raised_by base H) t
  heads-kept small = record {
    table = h;
    small = small;
    generates = subst (λ b. GeneratesIdeal G (IsFrom b t) (raised_by base H)) (sym first-base) heads-generate;
  }
