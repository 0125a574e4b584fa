use Rattle.std.proofs.Common.{◌≡◌, ◌*◌, Bool, true, false, refl, sym, subst, inl, inr, arith, pos, ◌-ℤ◌, ◌<ℤ◌, to_z, of_z, w64}
use Rattle.std.specs.Prelude.{not}
use Rattle.std.proofs.lemmas.Int.{ints}
use Rattle.sg_defs.specs.Membership.{IsIntegerMember}
use Rattle.sg_irred.proofs.CoverLemmas.{cover-from_new, cover-split}
use Rattle.sg_irred.proofs.cover_of.is_in_cover.Goals as goal

not-true : (b : Bool) → not b ≡ true → b ≡ true → ⊥
not-true true e f = absurd cc
not-true false e f = absurd cc

not-told : (b : Bool) → (b ≡ true → ⊥) → not b ≡ true
not-told true n = absurd (n refl)
not-told false n = refl

pub returns-then-number-h : goal.returns-then-number-h
returns-then-number-h c =
    let G = c.args.table.now in
    let h = c.args.h in
    let x = c.args.x in
    let r = c.contains-then-number-h.result in
    let e : h -ℤ pos x ≡ to_z w64 (of_z w64 (to_z w64 (of_z w64 h) -ℤ to_z w64 x)) = omega (arith, ints) in
    let d : pos x ≡ to_z w64 x = omega (arith, ints) in
    let past : h <ℤ pos (2 * x) = omega (arith, ints) in (
      (λ s. cover-from_new G h x (record { past = past; outside = λ q. not-true r s (c.contains-then-number-h.ensures.1 (subst (IsIntegerMember G) e q)) })),
      (λ p. elim (cover-split G h x c.requires.natural p) [
        | inl member ↦ absurd (let f = c.if-contains.ensures.1 (subst (IsIntegerMember G) d member) in cc)
        | inr n ↦ not-told r (λ t. n.outside (subst (IsIntegerMember G) (sym e) (c.contains-then-number-h.ensures.0 t)))
      ]),
    )
