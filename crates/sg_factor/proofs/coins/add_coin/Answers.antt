use Rattle.std.proofs.Common.{◌+◌, ◌-◌, ◌<◌, length, inl, inr, arith}
use Rattle.std.specs.Prelude.{slice_index}
use Rattle.sg_factor.specs.declared.coins.TheConstants.{NO_SUM}
use Rattle.sg_factor.proofs.CoinLemmas.{counts-first, counts-next, bounded-next}
use Rattle.sg_factor.proofs.coins.add_coin.Goals as goal
use Rattle.sg_factor.proofs.coins.add_coin.Goals.{then-with-table, else-with-table}

pub loop-sum-init : goal.loop-sum-init
loop-sum-init c = record { bounded = c.requires.bounded; counts = λ D h. counts-first D c.args.coin c.args.table.now h }

pub loop-sum-preserved : goal.loop-sum-preserved
loop-sum-preserved c =
    let t = c.loop-sum.table in
    let new = c.if-with-table.table in
    let x = c.loop-sum.sum in
    let inside : x < length t = omega (arith, c.loop-sum-test.true, c.loop-sum.auto.table) in
    elim c.if-with-table.branch [
      | then-with-table w ↦ record {
        bounded = bounded-next t new x (slice_index t (x - c.args.coin) + 1) NO_SUM inside c.loop-sum.invariant.bounded (inl (w.if-with-table.true, w.table-is));
        counts = λ D h. counts-next D c.args.coin t new x c.requires.positive c.loop-sum.auto.sum inside (c.loop-sum.invariant.counts D h) (inl (w.if-with-table.true, w.table-is));
      }
      | else-with-table w ↦ record {
        bounded = bounded-next t new x 0 NO_SUM inside c.loop-sum.invariant.bounded (inr w.table-is);
        counts = λ D h. counts-next D c.args.coin t new x c.requires.positive c.loop-sum.auto.sum inside (c.loop-sum.invariant.counts D h) (inr (w.if-with-table.false, w.table-is));
      }
    ]
