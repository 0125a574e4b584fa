use Rattle.std.proofs.Common.{◌≡◌, ℕ, ◌<◌, List, length, slice_index_or, refl, ap, sym, subst, get_or, arith, ℤ, pos, negsuc, ◌+ℤ◌, ◌≤ℤ◌, to_z, of_z, w64}
use Rattle.std.proofs.lemmas.Int.{ints}
use Rattle.std.proofs.lemmas.List.Elements.{Contains-get_or}
use Rattle.sg_defs.specs.Membership.{IsIntegerMember}
use Rattle.sg_defs.specs.Invariants.{IsFrobenius, IsPseudoFrobenius, IsSpecialGap}
use Rattle.sg_defs.specs.Listings.{ListsIntegers}
use Rattle.sg_invar.proofs.PseudoFrobeniusLemmas.{outside-below, pseudo_frobenius-low}
use Rattle.sg_invar.proofs.SelectionLemmas.{selects-push, selects-skip, selects-all}
use Rattle.sg_invar.proofs.pseudo.special_gaps.Goals as goal
use Rattle.sg_invar.proofs.pseudo.special_gaps.Goals.{then-has_double+in_ok-push, else-has_double}

-- a listed pseudo-Frobenius number lies between -1 and the Frobenius number
listed-low : (G : List ℕ) (f : ℤ) (l : List ℤ) (k : ℕ) → IsFrobenius G f → negsuc 0 ≤ℤ f → ListsIntegers (IsPseudoFrobenius G) l → k < length l → negsuc 0 ≤ℤ get_or l k (pos 0)
listed-low G f l k h low listed inside = pseudo_frobenius-low G f (get_or l k (pos 0)) h low ((listed.exactly (get_or l k (pos 0))).0 (Contains-get_or l k (pos 0) inside))

listed-high : (G : List ℕ) (f : ℤ) (l : List ℤ) (k : ℕ) → IsFrobenius G f → ListsIntegers (IsPseudoFrobenius G) l → k < length l → get_or l k (pos 0) ≤ℤ f
listed-high G f l k h listed inside = outside-below G f (get_or l k (pos 0)) h ((listed.exactly (get_or l k (pos 0))).0 (Contains-get_or l k (pos 0) inside)).outside

pub has_double-requires-clause-low : goal.has_double-requires-clause-low
has_double-requires-clause-low c =
    let G = c.args.table.now in
    let pf = c.args.pf.now in
    let k = c.loop-x.x-index in
    let f = c.frobenius-greatest_gap.ensures in
    let inside : k < length pf = subst (λ l. k < length l) c.as_slice-x-items.ensures c.loop-x-test.true in
    let same = ap (λ l. get_or l k (pos 0)) c.as_slice-x-items.ensures in
    let low = listed-low G c.frobenius-greatest_gap.result pf k f.frobenius f.low c.requires inside in
    let high = listed-high G c.frobenius-greatest_gap.result pf k f.frobenius c.requires inside in
    omega (arith, ints, same, low, high)

pub has_double-requires-clause-below : goal.has_double-requires-clause-below
has_double-requires-clause-below c =
    let G = c.args.table.now in
    let pf = c.args.pf.now in
    let k = c.loop-x.x-index in
    let f = c.frobenius-greatest_gap.ensures in
    let inside : k < length pf = subst (λ l. k < length l) c.as_slice-x-items.ensures c.loop-x-test.true in
    let same = ap (λ l. get_or l k (pos 0)) c.as_slice-x-items.ensures in
    let low = listed-low G c.frobenius-greatest_gap.result pf k f.frobenius f.low c.requires inside in
    let high = listed-high G c.frobenius-greatest_gap.result pf k f.frobenius c.requires inside in
    omega (arith, ints, same, low, high)

pub loop-x-preserved : goal.loop-x-preserved
loop-x-preserved c =
    let G = c.args.table.now in
    let pf = c.args.pf.now in
    let k = c.loop-x.x-index in
    let f = c.frobenius-greatest_gap.ensures in
    let inside : k < length pf = subst (λ l. k < length l) c.as_slice-x-items.ensures c.loop-x-test.true in
    let same = ap (λ l. get_or l k (pos 0)) c.as_slice-x-items.ensures in
    let low = listed-low G c.frobenius-greatest_gap.result pf k f.frobenius f.low c.requires inside in
    let high = listed-high G c.frobenius-greatest_gap.result pf k f.frobenius c.requires inside in
    let e : to_z w64 (of_z w64 (slice_index_or c.as_slice-x-items.result.now k (pos 0))) ≡ get_or pf k (pos 0) = omega (arith, ints, same, low, high) in
    let P : ℤ → Type 0 = λ x. IsIntegerMember G (x +ℤ x) in
    elim c.if-has_double.branch [
      | then-has_double+in_ok-push w ↦
          rw (w.special-is, w.in_ok-push.ensures.ok, e)
          (selects-push P pf k c.loop-x.special c.requires.ascending inside (subst P e (w.if-has_double.ensures.0 refl)) c.loop-x.invariant)
      | else-has_double w ↦
          rw w.special-is
          (selects-skip P pf k c.loop-x.special (λ q. absurd (let f = w.if-has_double.ensures.1 (subst P (sym e) q) in cc)) c.loop-x.invariant)
    ]

pub returns : goal.returns
returns c =
    let G = c.args.table.now in
    selects-all (λ x. IsIntegerMember G (x +ℤ x)) (IsPseudoFrobenius G) (IsSpecialGap G) c.args.pf.now c.loop-x.x-index c.loop-x.special
    (omega (arith, ap length c.as_slice-x-items.ensures)) c.requires
    (λ x. ((λ p. record { pseudo_frobenius = p.0; double = p.1 }), (λ s. (s.pseudo_frobenius, s.double)))) c.loop-x.invariant
