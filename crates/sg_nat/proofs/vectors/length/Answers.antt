use Rattle.std.proofs.Common.{◌≡◌, ◌<◌, ◌^◌, take, sum, subst, arith}
use Rattle.std.proofs.lemmas.List.{take_all}
use Rattle.sg_nat.proofs.vectors.length.Goals as goal

pub returns-clause-none : goal.returns-clause-none
returns-clause-none c =
    let whole : take c.loop-x.x-index c.args.a.now ≡ c.args.a.now = take_all c.loop-x.x-index c.args.a.now (omega arith) in
    let small : c.loop-x.total < 2 ^ 64 = c.loop-x.invariant.small in
    let total : c.loop-x.total ≡ sum c.args.a.now = subst (λ l. c.loop-x.total ≡ sum l) whole c.loop-x.invariant.so_far in
    (λ e. absurd (cc), λ far. absurd (omega arith))
