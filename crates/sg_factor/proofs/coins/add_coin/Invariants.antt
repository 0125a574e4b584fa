use Rattle.std.proofs.Common.{ℕ, ◌≤◌, List}
use Rattle.std.specs.Prelude.{slice_index, EachIndex}
use Rattle.sg_factor.specs.Coins.{AreLeastCounts}
use Rattle.sg_factor.specs.declared.coins.TheConstants.{NO_SUM}
use Rattle.sg_factor.proofs.CoinLemmas.{AreCountsUpTo}
use Rattle.sg_factor.proofs.coins.add_coin.Given as goal

abbrev pub invariant-loop-sum : goal.invariant-loop-sum
invariant-loop-sum l = record {
  bounded : EachIndex l.table (λ x. slice_index l.table x ≤ NO_SUM);
  counts : (D : List ℕ) → AreLeastCounts D l.fn.table → AreCountsUpTo D l.coin l.table l.sum;
}
