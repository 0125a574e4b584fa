use Rattle.std.proofs.Common.{◌≡◌, ◌+◌, sym, subst, arith, take, get_or, pos, to_z, of_z, w64}
use Rattle.std.proofs.lemmas.Int.{ints}
use Rattle.sg_defs.specs.Membership.{Generates}
use Rattle.sg_defs.specs.Decomposition.{IsInCover}
use Rattle.sg_irred.proofs.PlaceLemmas.{AreCovers, covers-more}
use Rattle.sg_irred.proofs.decomposition.covers.Goals as goal

pub loop-h-preserved : goal.loop-h-preserved
loop-h-preserved c =
    let G = c.args.table.now in
    let ks = c.args.chosen.now in
    let i = c.loop-h.h-index in
    let bounds = c.requires.natural i c.loop-h-test.true in
    let low = bounds.0 in
    let high = bounds.1 in
    let same : to_z w64 (of_z w64 (get_or ks i (pos 0))) ≡ get_or ks i (pos 0) = omega (arith, ints, low, high) in
    let here = subst (λ k. Generates (IsInCover G k) c.in_ok-cover.field-0) same c.in_ok-cover.ensures in
    subst (AreCovers G (take (i + 1) ks)) (sym c.in_ok-push.ensures.ok) (covers-more G ks c.loop-h.rows i (pos 0) c.in_ok-cover.field-0 c.loop-h-test.true here c.loop-h.invariant)
