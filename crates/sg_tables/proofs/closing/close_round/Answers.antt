use Rattle.std.proofs.Common.{◌≡◌, sum, subst, sym, ◌<◌, ◌∙◌, refl, arith}
use Rattle.sg_tables.proofs.FoundLemmas.{classes-more, lowered-more, marked-both, marked-none, settled-now}
use Rattle.sg_tables.proofs.closing.close_round.Goals as goal
use Rattle.sg_tables.proofs.closing.close_round.Goals.{then-led, else-led}

pub loop-class-init : goal.loop-class-init
loop-class-init c = record {
  found = c.requires.found;
  more = marked-none c.args.summands.now;
  lower = λ e. cc;
  same = λ e. refl;
  settled = λ e i after l. absurd (omega arith);
}

pub loop-class-preserved : goal.loop-class-preserved
loop-class-preserved c =
    let before = c.loop-class.invariant in
    let step = c.in_ok-led.ensures in
    let G = c.args.generators.now in
    let first = c.args.table.now in
    let t = c.loop-class.table in
    let s = c.loop-class.summands in
    let u = c.lead_from.new.table in
    let v = c.lead_from.new.summands in
    let more = marked-both c.args.summands.now s v before.more step.more in
    elim c.if-led.branch [
      | then-led w ↦ record {
        found = step.found;
        more = more;
        lower = λ e. lowered-more c.loop-class.lowered first t u before.lower before.same (step.lower w.if-led.true);
        same = λ e. absurd (let f = w.lowered-is in cc);
        settled = λ e. absurd (let f = w.lowered-is in cc);
      }
      | else-led w ↦
          let kept : u ≡ t = step.same w.if-led.false in
          record {
            found = step.found;
            more = more;
            lower = λ e. subst (λ t. sum t < sum first) (sym kept) (before.lower (sym w.lowered-is ∙ e));
            same = λ e. kept ∙ before.same (sym w.lowered-is ∙ e);
            settled = λ e. classes-more G t u s v c.sum_bound-bound.result c.loop-class.class kept step.more (before.settled (sym w.lowered-is ∙ e)) (step.settled w.if-led.false);
          }
    ]

pub returns-clause-settled : goal.returns-clause-settled
returns-clause-settled c = λ e.
    let h = c.loop-class.invariant in
    settled-now c.args.generators.now c.args.table.now c.args.summands.now c.loop-class.table c.loop-class.summands c.sum_bound-bound.result c.loop-class.class
    (h.same e) h.more c.sum_bound-bound.ensures.top c.sum_bound-bound.ensures.unmarked (omega (arith, c.loop-class.auto.table, c.loop-class-test.false)) (h.settled e)
