use Rattle.std.proofs.Common.{◌≡◌, ◌<◌, ◌∙◌, sum, subst, sym, arith}
use Rattle.sg_tables.proofs.FoundLemmas.{lowered-more, marked-both, told-next}
use Rattle.sg_tables.proofs.leads.lead_between.Goals as goal
use Rattle.sg_tables.proofs.leads.lead_between.Goals.{then-branch, else-branch}

pub loop-which-preserved : goal.loop-which-preserved
loop-which-preserved c =
    let before = c.loop-which.invariant in
    let step = c.in_ok-lead_and_queue.ensures in
    let L = c.args.list.now in
    let first = c.args.table.now in
    let t = c.loop-which.table in
    let s = c.loop-which.summands in
    let u = c.lead_and_queue.new.table in
    let v = c.lead_and_queue.new.summands in
    let which = c.loop-which.which in
    let more = marked-both c.args.summands.now s v before.more step.more in
    elim c.if-branch.branch [
      | then-branch w ↦ record {
        found = λ G listed f. step.found G (listed which (omega arith)) (before.found G listed f);
        more = more;
        less = omega (arith, before.less, step.less);
        lower = λ e. lowered-more c.loop-which.lowered first t u before.lower before.same (step.lower w.if-branch.true);
        same = λ e. absurd (let f = w.lowered-is in cc);
        told = λ e. absurd (let f = w.lowered-is in cc);
      }
      | else-branch w ↦
          let kept : u ≡ t = step.same w.if-branch.false in
          record {
            found = λ G listed f. step.found G (listed which (omega arith)) (before.found G listed f);
            more = more;
            less = omega (arith, before.less, step.less);
            lower = λ e. subst (λ t. sum t < sum first) (sym kept) (before.lower (sym w.lowered-is ∙ e));
            same = λ e. kept ∙ before.same (sym w.lowered-is ∙ e);
            told = λ e. told-next L t u s v c.args.from c.count_up_to-low.result which kept step.more (before.told (sym w.lowered-is ∙ e)) (step.told w.if-branch.false);
          }
    ]
