use Rattle.std.proofs.Common.{refl, lit≤}
use Rattle.sg_invar.proofs.GapLemmas.{fundamental-from_three}
use Rattle.sg_invar.proofs.gap_lists.is_fundamental_gap.Goals as goal

pub returns-then-contains_natural-2 : goal.returns-then-contains_natural-2
returns-then-contains_natural-2 c =
    let G = c.args.table.now in
    let n = c.args.n in (
      (λ h. fundamental-from_three G n (λ m. absurd (let f = c.if-contains_natural.ensures.1 m in cc)) (c.if-contains_natural-2.ensures.0 refl)
          (c.contains_natural-then-contains_natural-2.ensures.0 h)),
      (λ h. c.contains_natural-then-contains_natural-2.ensures.1 (h.multiples 3 (lit≤ tt))),
    )
