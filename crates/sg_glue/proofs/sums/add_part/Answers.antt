use Rattle.std.proofs.Common.{◌<◌, length, true, refl, ap, ◌∙◌, inl, inr, arith}
use Rattle.std.proofs.lemmas.List.{length-set}
use Rattle.sg_glue.proofs.SumLemmas.{sums-first, sums-next}
use Rattle.sg_glue.proofs.sums.add_part.Goals as goal
use Rattle.sg_glue.proofs.sums.add_part.Goals.{then-with, else-with}

pub loop-sum-init : goal.loop-sum-init
loop-sum-init c = record { long = refl; sums = λ D h. sums-first D c.args.part c.args.table.now h }

pub loop-sum-preserved : goal.loop-sum-preserved
loop-sum-preserved c =
    let t = c.loop-sum.table in
    let new = c.if-with.table in
    let x = c.loop-sum.sum in
    let inside : x < length t = omega (arith, c.loop-sum-test.true, c.loop-sum.auto.table) in
    elim c.if-with.branch [
      | then-with w ↦ record {
        long = ap length w.table-is ∙ length-set t x true ∙ c.loop-sum.invariant.long;
        sums = λ D h. sums-next D c.args.part t new x c.requires c.loop-sum.auto.sum inside (c.loop-sum.invariant.sums D h) (inl (w.if-with.true, w.table-is));
      }
      | else-with w ↦ record {
        long = ap length w.table-is ∙ c.loop-sum.invariant.long;
        sums = λ D h. sums-next D c.args.part t new x c.requires c.loop-sum.auto.sum inside (c.loop-sum.invariant.sums D h)
            (inr ((λ e. absurd (let f = w.if-with.false in let g = e in cc)), w.table-is));
      }
    ]
