use Rattle.std.proofs.Common.{◌-◌, length, drop, sym, subst, ◌∙◌}
use Rattle.sg_glue.specs.Sums.{TellsSums}
use Rattle.sg_glue.proofs.SumLemmas.{from-place}
use Rattle.sg_glue.proofs.sums.fill.Goals as goal

pub loop-step-preserved : goal.loop-step-preserved
loop-step-preserved c =
    let parts = c.args.parts.now in
    record {
      long = c.add_part.ensures.long ∙ c.loop-step.invariant.long;
      sums = subst (λ D. TellsSums D c.add_part.new.table) (sym (from-place parts c.loop-step.step c.loop-step-test.true))
          (c.add_part.ensures.sums (drop (length parts - c.loop-step.step) parts) c.loop-step.invariant.sums);
    }
