use Rattle.std.proofs.Common.{length, arith}
use Rattle.sg_classes.proofs.ResidueLemmas.{gcd-range}
use Rattle.sg_factor.proofs.bounds.go_round.Goals as goal

pub nonzero_div-steps : goal.nonzero_div-steps
nonzero_div-steps c = (gcd-range c.args.generator (length c.args.table.now) c.gcd-circles.result c.requires.not_empty c.gcd-circles.ensures).0

pub walk-requires-clause-start : goal.walk-requires-clause-start
walk-requires-clause-start c =
    let r = gcd-range c.args.generator (length c.args.table.now) c.gcd-circles.result c.requires.not_empty c.gcd-circles.ensures in
    omega (arith, c.loop-start-test.true, r.1, c.loop-start.auto.table)
