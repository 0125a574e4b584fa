-- The maximal and the canonical ideal by their generators.
use Rattle.std.proofs.Common.{◌≡◌, ◌≢◌, ℕ, zero, suc, ◌+◌, ◌-◌, ◌<◌, ◌≤◌, ◌↔◌, List, length, get_or, map, refl, sym, ap, subst, ◌∙◌, inl, inr, arith}
use Rattle.std.specs.Prelude.{AllPairs, Contains, ℤ, pos, negsuc, nat_abs, ◌+ℤ◌, ◌-ℤ◌, ◌<ℤ◌, ◌≤ℤ◌, ◌⊎◌}
use Rattle.std.proofs.lemmas.Int.{ints}
use Rattle.std.proofs.lemmas.Bool.{cases_lt}
use Rattle.std.proofs.Common.{[], ◌∷◌, ◌++◌}
use Rattle.std.proofs.lemmas.List.{get_or-map, get_or_default, get_or_append_left, get_or_push, length-map}
use Rattle.std.proofs.lemmas.List.Elements.{Contains-get_or}
use Rattle.sg_defs.specs.Listings.{ListsIntegers}
use Rattle.sg_defs.specs.Membership.{IsMember, IsIntegerMember, IsNumericalSemigroup}
use Rattle.sg_defs.specs.Invariants.{IsFrobenius, IsPseudoFrobenius}
use Rattle.sg_defs.specs.Ideals.{IsIdealMember, IsInCanonical, IsInMaximal, IsMinimalIdeal}
use Rattle.sg_defs.proofs.OneLemmas.{one-frobenius}
use Rattle.sg_defs.proofs.MembershipLemmas.{member-zero, member-add, member-entry}
use Rattle.sg_classes.specs.declared.limits.TheConstants.{APERY_ENTRY_LIMIT}
use Rattle.sg_classes.specs.Fit.{IsFit}
use Rattle.sg_classes.proofs.GeneratorLemmas.{contains-place, entry-positive, member-listed, member-split}
use Rattle.sg_invar.proofs.PseudoFrobeniusLemmas.{outside-below, pseudo_frobenius-from_generators, pseudo_frobenius-low}
use Rattle.sg_ideal.specs.Value.{AreWithin, GeneratesIdeal, IsReflected}
use Rattle.sg_lawful.specs.Generators.{AreSmall}
use Rattle.sg_ideal.proofs.FromLemmas.{at-natural, natural-at}

-- a listed integer comes from a listed natural
integer-from : (G : List ℕ) (x : ℤ) → Contains (map (λ n. pos n) G) x → (g : ℕ) × Contains G g × (x ≡ pos g)
integer-from G x q =
    let long = length-map G (λ n. pos n) in
    let inside : q.0 < length G = omega (arith, q.1) in
    let e : pos (get_or G q.0 0) ≡ x = sym (get_or-map (λ n. pos n) G q.0 0 x inside) ∙ q.2 in
    (get_or G q.0 0, Contains-get_or G q.0 0 inside, sym e)

integer-to : (G : List ℕ) (i : ℕ) → i < length G → Contains (map (λ n. pos n) G) (pos (get_or G i 0))
integer-to G i inside = (i, omega (arith, length-map G (λ n. pos n), inside), get_or-map (λ n. pos n) G i 0 (pos (get_or G i 0)) inside)

-- the generators as integers are not past the limit
pub integers-small : (G : List ℕ) → IsFit G → AreSmall (map (λ n. pos n) G)
integers-small G fit x q =
    let g = integer-from G x q in
    let p = contains-place G g.0 g.1 in
    let s = fit.small p.0 p.1 in
    let e = p.2 in
    let f = g.2 in
    (omega (arith, ints, f), omega (arith, ints, e, f, s))

-- a member but 0 is a generator and a member
pub maximal-same : (G : List ℕ) → IsNumericalSemigroup G → (x : ℤ) → IsInMaximal G x ↔ IsIdealMember G (map (λ n. pos n) G) x
maximal-same G s x = (to, from)
  where
    to : IsInMaximal G x → IsIdealMember G (map (λ n. pos n) G) x
    to m =
        let n = at-natural (IsMember G) x m.1 in
        let e = n.1 in
        elim (member-split G n.0 n.2) [
          | inl none ↦ absurd (m.0 (omega (arith, ints, e, none)))
          | inr r ↦
              let f = r.4 in
              (pos (get_or G r.0 0), integer-to G r.0 r.2, natural-at (IsMember G) (x -ℤ pos (get_or G r.0 0)) r.1 (omega (arith, ints, e, f)) r.3)
        ]

    from : IsIdealMember G (map (λ n. pos n) G) x → IsInMaximal G x
    from m =
        let g = integer-from G m.0 m.1 in
        let n = at-natural (IsMember G) (x -ℤ m.0) m.2 in
        let e = n.1 in
        let f = g.2 in
        let positive = entry-positive G s g.0 g.1 in
        let sum : x ≡ pos (g.0 + n.0) = omega (arith, ints, e, f) in
        ((λ z. omega (arith, ints, sum, z, positive)), natural-at (IsMember G) x (g.0 + n.0) sum (member-add G g.0 n.0 (member-listed G g.0 g.1) n.2))

module _ (G : List ℕ) (f : ℤ) (pf r : List ℤ) (semigroup : IsNumericalSemigroup G) (decided : (n : ℕ) → IsMember G n ⊎ (IsMember G n → ⊥)) (frobenius : IsFrobenius G f)
    (listed : ListsIntegers (IsPseudoFrobenius G) pf) (reflected : IsReflected f pf r) where
  integer-decided : (x : ℤ) → IsIntegerMember G x ⊎ (IsIntegerMember G x → ⊥)
  integer-decided (pos n) = decided n
  integer-decided (negsuc n) = inr (λ m. m)

  -- the first j generators all move y inside, or some one does not
  moves : (y : ℤ) (j : ℕ) → j ≤ length G → ((i : ℕ) → i < j → IsIntegerMember G (y +ℤ pos (get_or G i 0))) ⊎ ((i : ℕ) × (i < length G) × (IsIntegerMember G (y +ℤ pos (get_or G i 0)) → ⊥))
  moves y zero l = inl (λ i less. absurd (omega arith))
  moves y (suc j) l = elim (moves y j (omega arith)) [
    | inr p ↦ inr p
    | inl all ↦ elim (integer-decided (y +ℤ pos (get_or G j 0))) [
      | inr not ↦ inr (j, omega arith, not)
      | inl here ↦ inl (λ i less. elim (cases_lt i j) [
        | inl before ↦ all i before
        | inr at ↦ let e : j ≡ i = omega arith in subst (λ i. IsIntegerMember G (y +ℤ pos (get_or G i 0))) e here
      ])
    ]
  ]

  -- each integer outside is a pseudo-Frobenius number less a member
  below-pseudo : (b : ℕ) (y : ℤ) → f <ℤ (y +ℤ pos b) → (IsIntegerMember G y → ⊥) → (x : ℤ) × (s : ℕ) × IsPseudoFrobenius G x × IsMember G s × (x ≡ y +ℤ pos s)
  below-pseudo zero y l outside = absurd (outside (frobenius.above y (omega (arith, ints, l))))
  below-pseudo (suc b) y l outside = elim (moves y (length G) (omega arith)) [
    | inl all ↦ (y, 0, pseudo_frobenius-from_generators G y outside all, member-zero G, omega (arith, ints))
    | inr p ↦
        let g = get_or G p.0 0 in
        let positive = entry-positive G semigroup g (Contains-get_or G p.0 0 p.1) in
        let q = below-pseudo b (y +ℤ pos g) (omega (arith, ints, l, positive)) p.2 in
        let e = q.4 in
        (q.0, q.1 + g, q.2, member-add G q.1 g q.3 (member-entry G p.0 p.1), omega (arith, ints, e))
  ]

  pseudo-above : (y : ℤ) → (IsIntegerMember G y → ⊥) → (x : ℤ) × (s : ℕ) × IsPseudoFrobenius G x × IsMember G s × (x ≡ y +ℤ pos s)
  pseudo-above y outside =
      let l = outside-below G f y frobenius outside in
      below-pseudo (nat_abs (f -ℤ y) + 1) y (omega (arith, ints, l)) outside

  -- a reflected number comes from a pseudo-Frobenius number
  reflected-from : (x : ℤ) → Contains r x → (y : ℤ) × IsPseudoFrobenius G y × (x ≡ f -ℤ y)
  reflected-from x q =
      let inside : q.0 < length pf = omega (arith, q.1, reflected.long) in
      let k = length pf - 1 - q.0 in
      let e : get_or r q.0 (pos 0) ≡ x = get_or_default r q.0 (pos 0) x q.1 ∙ q.2 in
      (get_or pf k (pos 0), (listed.exactly (get_or pf k (pos 0))).0 (Contains-get_or pf k (pos 0) (omega arith)), sym e ∙ reflected.entries q.0 inside)

  reflected-to : (y : ℤ) → IsPseudoFrobenius G y → Contains r (f -ℤ y)
  reflected-to y p =
      let q = (listed.exactly y).1 p in
      let l = q.1 in
      let k = length pf - 1 - q.0 in
      let inside : k < length pf = omega arith in
      let back : length pf - 1 - k ≡ q.0 = omega arith in
      let value : get_or pf q.0 (pos 0) ≡ y = get_or_default pf q.0 (pos 0) y l ∙ q.2 in
      let e : get_or r k (pos 0) ≡ f -ℤ y = reflected.entries k inside ∙ ap (λ i. f -ℤ get_or pf i (pos 0)) back ∙ ap (λ v. f -ℤ v) value in
      let in_r : k < length r = omega (arith, reflected.long) in
      (k, in_r, get_or_default r k (f -ℤ y) (pos 0) in_r ∙ e)

  -- the reflected numbers generate the canonical ideal
  pub canonical-same : (x : ℤ) → IsInCanonical G x ↔ IsIdealMember G r x
  canonical-same x = (to, from)
    where
      to : IsInCanonical G x → IsIdealMember G r x
      to m =
          let one : m.0 ≡ f = one-frobenius G m.0 f m.1 frobenius in
          let p = pseudo-above (f -ℤ x) (subst (λ f. IsIntegerMember G (f -ℤ x) → ⊥) one m.2) in
          let e = p.4 in
          (f -ℤ p.0, reflected-to p.0 p.2, natural-at (IsMember G) (x -ℤ (f -ℤ p.0)) p.1 (omega (arith, ints, e)) p.3)

      from : IsIdealMember G r x → IsInCanonical G x
      from m =
          let p = reflected-from m.0 m.1 in
          let n = at-natural (IsMember G) (x -ℤ m.0) m.2 in
          let e = n.1 in
          let g = p.2 in (
            f,
            frobenius,
            λ q.
                let k = at-natural (IsMember G) (f -ℤ x) q in
                let h = k.1 in
                let sum : p.0 ≡ pos (k.0 + n.0) = omega (arith, ints, e, g, h) in
                p.1.outside (natural-at (IsMember G) p.0 (k.0 + n.0) sum (member-add G k.0 n.0 k.2 n.2)),
          )

  pub canonical-minimal : IsMinimalIdeal G r
  canonical-minimal = record { ascending = ascending; needed = needed }
    where
      ascending : AllPairs (λ x y. x <ℤ y) r
      ascending i j d less inside =
          let long = reflected.long in
          let a = get_or_default r i d (pos 0) (omega arith) ∙ reflected.entries i (omega arith) in
          let b = get_or_default r j d (pos 0) inside ∙ reflected.entries j (omega arith) in
          let o = listed.ascending (length pf - 1 - j) (length pf - 1 - i) (pos 0) (omega arith) (omega arith) in
          let h : (f -ℤ get_or pf (length pf - 1 - i) (pos 0)) <ℤ (f -ℤ get_or pf (length pf - 1 - j) (pos 0)) = omega (arith, ints, o) in
          rw (a, b) h

      needed : (x y : ℤ) → Contains r x → Contains r y → x ≢ y → IsIntegerMember G (x -ℤ y) → ⊥
      needed x y p q other m =
          let v = reflected-from x p in
          let w = reflected-from y q in
          let n = at-natural (IsMember G) (x -ℤ y) m in
          let e = v.2 in
          let g = w.2 in
          let h = n.1 in
          elim (cases_lt 0 n.0) [
            | inl more ↦
                let sum : v.0 +ℤ pos n.0 ≡ w.0 = omega (arith, ints, e, g, h) in
                w.1.outside (subst (IsIntegerMember G) sum (v.1.absorbed n.0 more n.2))
            | inr none ↦ other (omega (arith, ints, h, none))
          ]

  -- and are its minimal list
  pub canonical-generates : 0 < length pf → GeneratesIdeal G (IsInCanonical G) r
  canonical-generates positive = record { not_empty = omega (arith, reflected.long); minimal = canonical-minimal; same = canonical-same }

  -- the Frobenius number is listed
  pub pseudo-listed : 0 < length pf
  pseudo-listed = let p = pseudo-above f frobenius.outside in let q = (listed.exactly p.0).1 p.2 in let l = q.1 in omega arith

-- one more reflected number
pub reflected-push : (h : ℤ) (l r : List ℤ) (k : ℕ) (x : ℤ) → length r ≡ k → x ≡ h -ℤ get_or l (length l - 1 - k) (pos 0) → ((i : ℕ) → i < k → get_or r i (pos 0) ≡ h -ℤ get_or l (length l - 1 - i) (pos 0)) →
    (i : ℕ) → i < k + 1 → get_or (r ++ x ∷ []) i (pos 0) ≡ h -ℤ get_or l (length l - 1 - i) (pos 0)
reflected-push h l r k x long e each i less = elim (cases_lt i k) [
  | inl before ↦ let inside : i < length r = omega arith in get_or_append_left r (x ∷ []) (pos 0) i inside ∙ each i before
  | inr at ↦
      let same : i ≡ length r = omega arith in
      let f : k ≡ i = omega arith in
      ap (λ i. get_or (r ++ x ∷ []) i (pos 0)) same ∙ get_or_push r x (pos 0) (length r) refl ∙ e ∙ ap (λ i. h -ℤ get_or l (length l - 1 - i) (pos 0)) f
]

-- the pseudo-Frobenius numbers lie between -1 and the Frobenius number
pub pseudo-within : (G : List ℕ) (f : ℤ) (pf : List ℤ) → IsFrobenius G f → negsuc 0 ≤ℤ f → f <ℤ pos APERY_ENTRY_LIMIT → ListsIntegers (IsPseudoFrobenius G) pf → AreWithin f pf
pseudo-within G f pf h low high listed = record {
  small = omega (arith, ints, high);
  low = λ k l. pseudo_frobenius-low G f (get_or pf k (pos 0)) h low (at k l);
  high = λ k l. outside-below G f (get_or pf k (pos 0)) h (at k l).outside;
}
  where
    at : (k : ℕ) → k < length pf → IsPseudoFrobenius G (get_or pf k (pos 0))
    at k l = (listed.exactly (get_or pf k (pos 0))).0 (Contains-get_or pf k (pos 0) l)
