use Rattle.std.proofs.Common.{◌≡◌, ◌<◌, refl, sym, subst, get_or, arith, pos, ◌-ℤ◌, to_z, of_z, w64}
use Rattle.std.proofs.lemmas.Int.{ints}
use Rattle.sg_defs.specs.Membership.{IsIntegerMember}
use Rattle.sg_defs.specs.Invariants.{IsPseudoFrobenius}
use Rattle.sg_invar.proofs.MultiplicityLemmas.{multiplicity-member}
use Rattle.sg_invar.proofs.EntryLemmas.{entry-outside}
use Rattle.sg_invar.proofs.MaximalLemmas.{collects-push, collects-skip}
use Rattle.sg_invar.proofs.pseudo.maximal_entries.Goals as goal
use Rattle.sg_invar.proofs.pseudo.maximal_entries.Goals.{then-is_pseudo_frobenius+in_ok-push, else-is_pseudo_frobenius}

pub is_pseudo_frobenius-requires-clause-outside : goal.is_pseudo_frobenius-requires-clause-outside
is_pseudo_frobenius-requires-clause-outside c q =
    let G = c.args.table.now in
    let w = c.entry-entry.result in
    let e : to_z w64 (of_z w64 (to_z w64 w -ℤ to_z w64 c.multiplicity-multiplicity.result)) ≡ pos w -ℤ pos (get_or G 0 0) = omega (arith, ints) in
    entry-outside G (get_or G 0 0) c.loop-i.i w c.entry-entry.ensures.entry (subst (IsIntegerMember G) e q)

pub loop-i-preserved : goal.loop-i-preserved
loop-i-preserved c =
    let G = c.args.table.now in
    let m = get_or G 0 0 in
    let n = c.loop-i.i in
    let v = c.entry-entry.result in
    let before = c.loop-i.maximal.items in
    let first = c.multiplicity-multiplicity.ensures.first in
    let positive : 0 < m = omega (arith, c.multiplicity-multiplicity.ensures.positive, first) in
    let modulus = multiplicity-member G m positive refl in
    let e : to_z w64 (of_z w64 (to_z w64 v -ℤ to_z w64 c.multiplicity-multiplicity.result)) ≡ pos v -ℤ pos m = omega (arith, ints) in
    elim c.if-is_pseudo_frobenius.branch [
      | then-is_pseudo_frobenius+in_ok-push w ↦
          rw (w.maximal-is, w.in_ok-push.ensures.items)
          (collects-push G m n v before positive modulus c.entry-entry.ensures.entry c.entry-entry.ensures.small
          (subst (IsPseudoFrobenius G) e (w.if-is_pseudo_frobenius.ensures.0 refl)) c.loop-i.invariant)
      | else-is_pseudo_frobenius w ↦
          rw w.maximal-is
          (collects-skip G m n v before positive modulus c.entry-entry.ensures.entry
          (λ p. absurd (let f = w.if-is_pseudo_frobenius.ensures.1 (subst (IsPseudoFrobenius G) (sym e) p) in cc)) c.loop-i.invariant)
    ]
