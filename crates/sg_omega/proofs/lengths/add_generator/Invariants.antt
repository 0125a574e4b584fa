use Rattle.std.proofs.Common.{◌≡◌, ℕ, ◌+◌, ◌<◌, ◌≤◌, List, length, get_or}
use Rattle.std.specs.Prelude.{EachIndex}
use Rattle.sg_omega.specs.Lengths.{AreGreatestMade, IsInAperySet}
use Rattle.sg_omega.proofs.LengthLemmas.{AreMadeUpTo}
use Rattle.sg_omega.proofs.lengths.add_generator.Given as goal

abbrev pub invariant-loop-sum : goal.invariant-loop-sum
invariant-loop-sum l = record {
  bounded : EachIndex l.table (λ x. get_or l.table x 0 ≤ x + 1);
  lengths : (G : List ℕ) (v k : ℕ) → k < length G → get_or G k 0 ≡ l.generator → IsInAperySet G v l.generator → AreGreatestMade G v (k + 1) l.fn.table → AreMadeUpTo G v k l.table l.sum;
}
