use Rattle.std.proofs.Common.{◌≡◌, ℕ, ◌-◌, ◌%◌, ◌<◌, length}
use Rattle.sg_closure.specs.Marks.{IsIn}
use Rattle.sg_closure.proofs.marks.least_in.Given as goal

abbrev pub invariant-loop-n : goal.invariant-loop-n
invariant-loop-n l = record {
  residue : l.n % l.modulus ≡ l.class;
  passed : (k : ℕ) → k % l.modulus ≡ l.class → k < l.n → IsIn l.marks k → ⊥;
}

abbrev pub decreases-loop-n : goal.decreases-loop-n
decreases-loop-n l = length l.marks - l.n
