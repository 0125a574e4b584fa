use Rattle.std.proofs.Common.{◌≡◌, ◌<◌, ◌%◌, length, refl, ◌∙◌, arith}
use Rattle.std.proofs.lemmas.Nat.{mod_below}
use Rattle.sg_classes.proofs.ResidueLemmas.{gcd-range}
use Rattle.sg_tables.proofs.CoverLemmas.{circles-more}
use Rattle.sg_tables.proofs.circles.go_round.Goals as goal

pub nonzero_div-steps : goal.nonzero_div-steps
nonzero_div-steps c = (gcd-range c.args.generator (length c.args.table.now) c.gcd-circles.result c.requires.not_empty c.gcd-circles.ensures).0

pub loop-start-init : goal.loop-start-init
loop-start-init c = record {
  long = refl;
  circles = (gcd-range c.args.generator (length c.args.table.now) c.gcd-circles.result c.requires.not_empty c.gcd-circles.ensures).1;
  known = λ M member known. known;
  down = λ i l. omega arith;
  closed = λ i l less. absurd (omega arith);
}

pub loop-start-preserved : goal.loop-start-preserved
loop-start-preserved c =
    let before = c.loop-start.invariant in
    let circle = c.go_circle.ensures in
    let long : length c.go_circle.new.table ≡ length c.args.table.now = circle.lowered.long ∙ before.long in
    record {
      long = long;
      circles = omega (arith, before.circles, before.long, long);
      known = λ M member known. circle.known M member (before.known M member known);
      down = λ i l. omega (arith, circle.lowered.down i (omega (arith, before.long, l)), before.down i l);
      closed = circles-more c.args.generator (length c.args.table.now) c.gcd-circles.result c.loop-start.start c.loop-start.table c.go_circle.new.table
          c.requires.positive c.gcd-circles.ensures c.loop-start-test.true before.long before.closed circle.lowered circle.followed;
    }

pub returns-clause-closed : goal.returns-clause-closed
returns-clause-closed c = λ i l.
    let some = (gcd-range c.args.generator (length c.args.table.now) c.gcd-circles.result c.requires.not_empty c.gcd-circles.ensures).0 in
    let less : i % c.gcd-circles.result < c.loop-start.start = omega (arith, mod_below i c.gcd-circles.result some, c.loop-start-test.false) in
    c.loop-start.invariant.closed i (omega (arith, c.loop-start.invariant.long, l)) less
