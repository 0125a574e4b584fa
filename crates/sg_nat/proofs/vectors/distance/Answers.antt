use Rattle.std.proofs.Common.{◌≡◌, sum, sym, subst}
use Rattle.sg_defs.specs.Vectors.{minus}
use Rattle.sg_nat.proofs.VectorLemmas.{meet-comm}
use Rattle.sg_nat.proofs.vectors.distance.Goals as goal

pub returns : goal.returns
returns c =
    let turned = meet-comm c.args.b.now c.args.a.now (sym c.requires.places) in
    let second = subst (λ m. c.excess-2.result ≡ sum (minus c.args.b.now m)) turned c.excess-2.ensures in
    cc
