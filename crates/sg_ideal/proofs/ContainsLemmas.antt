-- Membership by one comparison.
use Rattle.std.proofs.Common.{◌≡◌, ℕ, ◌↔◌, List, get_or, subst, arith}
use Rattle.std.specs.Prelude.{ℤ, pos, ◌-ℤ◌, ◌<ℤ◌, ◌≤ℤ◌, IsTrue, nat_abs, Bool, true, false}
use Rattle.std.proofs.Common.{to_z, of_z, w64}
use Rattle.std.specs.Int.Signed.{le_z}
use mir.Val.{SFits}
use Rattle.std.proofs.lemmas.List.Elements.{Contains-get_or}
use Rattle.sg_lawful.specs.Generators.{IsSmall}
use Rattle.std.proofs.lemmas.Int.{ints}
use Rattle.sg_defs.specs.Ideals.{IsIdealMember}
use Rattle.sg_classes.specs.Classes.{IsAboveEntry}
use Rattle.sg_ideal.specs.Classes.{IsKept}
use Rattle.sg_ideal.proofs.FromLemmas.{at-natural, natural-at}

module _ (G : List ℕ) (I : List ℤ) (t : List ℕ) (x : ℤ) (h : IsKept G I t) where
  -- nothing lies below the least
  pub contains-low : x <ℤ get_or I 0 (pos 0) → IsIdealMember G I x → ⊥
  contains-low low m =
      let n = at-natural (IsAboveEntry t) (x -ℤ get_or I 0 (pos 0)) ((h.generates.same x).1 m) in
      let e = n.1 in
      omega (arith, ints, e)

  -- b is the distance from the least
  pub contains-high : (b : ℕ) → x -ℤ get_or I 0 (pos 0) ≡ pos b → IsAboveEntry t b ↔ IsIdealMember G I x
  contains-high b e = (
    (λ a. (h.generates.same x).0 (natural-at (IsAboveEntry t) (x -ℤ get_or I 0 (pos 0)) b e a)),
    (λ m.
        let n = at-natural (IsAboveEntry t) (x -ℤ get_or I 0 (pos 0)) ((h.generates.same x).1 m) in
        let f = n.1 in
        let same : n.0 ≡ b = omega (arith, ints, e, f) in
        subst (IsAboveEntry t) same n.2),
  )

  -- the least member is within the limit
  pub first-small : IsSmall (get_or I 0 (pos 0))
  first-small = h.small (get_or I 0 (pos 0)) (Contains-get_or I 0 (pos 0) h.generates.not_empty)

  -- the test and the look-up, as they run
  pub contains-above : (a : ℤ) (b : ℕ) (r : Bool) → SFits w64 x → a ≡ get_or I 0 (pos 0) → le_z (to_z w64 (of_z w64 a)) (to_z w64 (of_z w64 x)) ≡ true →
      b ≡ nat_abs (to_z w64 (of_z w64 x) -ℤ to_z w64 (of_z w64 a)) → IsTrue r ↔ IsAboveEntry t b → IsTrue r ↔ IsIdealMember G I x
  contains-above a b r fits e test d above =
      let s = first-small in
      let l : to_z w64 (of_z w64 a) ≤ℤ to_z w64 (of_z w64 x) = grind (arith, ints) in
      let f : x -ℤ get_or I 0 (pos 0) ≡ pos b = omega (arith, ints, s, l, e, d) in
      let both = contains-high b f in
      ((λ q. both.0 (above.0 q)), (λ m. above.1 (both.1 m)))

  -- nothing below it is a member
  pub contains-below : (a : ℤ) (r : Bool) → SFits w64 x → a ≡ get_or I 0 (pos 0) → le_z (to_z w64 (of_z w64 a)) (to_z w64 (of_z w64 x)) ≡ false → r ≡ false → IsTrue r ↔ IsIdealMember G I x
  contains-below a r fits e test not =
      let s = first-small in
      let l : to_z w64 (of_z w64 x) <ℤ to_z w64 (of_z w64 a) = grind (arith, ints) in
      let f : x <ℤ get_or I 0 (pos 0) = omega (arith, ints, s, l, e) in
      ((λ q. absurd cc), (λ m. absurd (contains-low f m)))
