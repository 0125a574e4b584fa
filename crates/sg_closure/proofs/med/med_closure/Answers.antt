use Rattle.std.proofs.Common.{◌≡◌, ℕ, ◌↔◌, Bool, List, get_or, sym, subst}
use Rattle.std.proofs.lemmas.Result.{IfOk-weaker}
use Rattle.sg_defs.specs.Membership.{IsNumericalSemigroup, IsMinimal, Generates, Holds}
use Rattle.sg_defs.specs.Closures.{IsMedClosure}
use Rattle.sg_closure.specs.Marks.{IsIn, IsAbove}
use Rattle.sg_closure.specs.Differences.{GeneratesDifferences, IsShifted}
use Rattle.sg_closure.proofs.DifferenceLemmas.{shifted-closure, shifted-above, differences-above}
use Rattle.sg_closure.proofs.med.med_closure.Goals as goal

module _ (G H L : List ℕ) (s : IsNumericalSemigroup G) (minimal : IsMinimal G) (e : H ≡ G) (d : GeneratesDifferences H L) where
  moved : GeneratesDifferences G L
  moved = subst (λ x. GeneratesDifferences x L) e d

  above : Holds L G
  above = differences-above G moved.0 L s minimal moved.1 moved.2

  module _ (marks now : List Bool) (f : now ≡ marks) (told : (n : ℕ) → IsIn marks n ↔ IsShifted L (get_or G 0 0) n) where
    again : (n : ℕ) → IsIn now n ↔ IsShifted L (get_or G 0 0) n
    again = subst (λ x. (n : ℕ) → IsIn x n ↔ IsShifted L (get_or G 0 0) n) (sym f) told

    marks-above : IsAbove G now
    marks-above = shifted-above G moved.0 L s minimal moved.1 moved.2 now again

    closure : (M : List ℕ) → Generates (IsIn now) M → IsMedClosure G M
    closure = shifted-closure G moved.0 L s minimal moved.1 moved.2 now again

pub shifted_marks-requires-clause-above : goal.shifted_marks-requires-clause-above
shifted_marks-requires-clause-above c =
    above c.args.table.now c.generators.result.now c.in_ok-differences.differences c.generators.ensures.semigroup c.generators.ensures.minimal c.generators.ensures.same
    c.in_ok-differences.ensures

pub marked_table-requires-clause-above : goal.marked_table-requires-clause-above
marked_table-requires-clause-above c =
    marks-above c.args.table.now c.generators.result.now c.in_ok-differences.differences c.generators.ensures.semigroup c.generators.ensures.minimal c.generators.ensures.same
    c.in_ok-differences.ensures c.in_ok-marks.marks.items c.deref.result.now c.deref.ensures.value c.in_ok-marks.ensures.same

pub returns : goal.returns
returns c = IfOk-weaker c.marked_table.result (λ M. Generates (IsIn c.deref.result.now) M) (λ M. IsMedClosure c.args.table.now M)
    (closure c.args.table.now c.generators.result.now c.in_ok-differences.differences c.generators.ensures.semigroup c.generators.ensures.minimal c.generators.ensures.same
    c.in_ok-differences.ensures c.in_ok-marks.marks.items c.deref.result.now c.deref.ensures.value c.in_ok-marks.ensures.same) c.marked_table.ensures.generated
