-- The marks that steps lead to are the Arf closure.
use Rattle.std.proofs.Common.{◌≡◌, ℕ, ◌+◌, ◌-◌, ◌≤◌, Bool, List, length, get_or, sym, subst, inl, inr, arith}
use Rattle.std.proofs.lemmas.Bool.{cases_lt}
use Rattle.sg_defs.specs.Membership.{IsMember, Generates, Holds}
use Rattle.sg_defs.specs.Closures.{IsArf, IsArfClosure}
use Rattle.sg_defs.proofs.MembershipLemmas.{member-zero, member-induction}
use Rattle.sg_classes.proofs.GeneratorLemmas.{member-listed, place-contains}
use Rattle.sg_closure.specs.Marks.{IsIn, IsAbove, AreGeneratorMarks}
use Rattle.sg_closure.specs.Steps.{HasSteps}
use Rattle.sg_closure.proofs.MarkLemmas.{in-past, in-decided}
use Rattle.sg_closure.proofs.StepLemmas.{arf-from_steps}

-- what generates a part of a list's members
pub marks-held : (G K : List ℕ) (before : List Bool) → AreGeneratorMarks G before → Holds K G → (n : ℕ) → IsIn before n → IsMember K n
marks-held G K before start h n p = elim (cases_lt n (length before)) [
  | inl less ↦ elim (start.only n less p) [
    | inl e ↦ subst (IsMember K) (sym e) (member-zero K)
    | inr listed ↦ h n (member-listed G n listed)
  ]
  | inr more ↦ h n (start.past n more)
]

module _ (G : List ℕ) (before marks : List Bool) (start : AreGeneratorMarks G before) (keeps : (n : ℕ) → IsIn before n → IsIn marks n)
    (steps : HasSteps marks) where
  in-arf : (x y z : ℕ) → z ≤ x → z ≤ y → IsIn marks x → IsIn marks y → IsIn marks z → IsIn marks (x + y - z)
  in-arf x y z l m p q r = arf-from_steps (IsIn marks) (in-decided marks) (length marks) (in-past marks) steps x y z l m p q r

  in-sums : (a b : ℕ) → IsIn marks a → IsIn marks b → IsIn marks (a + b)
  in-sums a b p q =
      subst (IsIn marks) (let e : a + b - 0 ≡ a + b = omega arith in e) (in-arf a b 0 (omega arith) (omega arith) p q (keeps 0 start.zero))

  -- with all steps the marks are closed under sums
  pub steps-above : IsAbove G marks
  steps-above = record {
    sums = in-sums;
    holds = member-induction (IsIn marks) G (keeps 0 start.zero)
        (λ i n l p. in-sums n (get_or G i 0) p (keeps (get_or G i 0) (start.generators (get_or G i 0) (place-contains G i l))));
  }

  -- the semigroup of the marks is the Arf closure
  pub steps-closure : ((K : List ℕ) → IsArf K → ((n : ℕ) → IsIn before n → IsMember K n) → (n : ℕ) → IsIn marks n → IsMember K n) →
      (M : List ℕ) → Generates (IsIn marks) M → IsArfClosure G M
  steps-closure least M g = record {
    semigroup = g.semigroup;
    has = λ x y z l m p q r. (g.same (x + y - z)).0 (in-arf x y z (omega arith) l ((g.same x).1 p) ((g.same y).1 q) ((g.same z).1 r));
    holds = λ n p. (g.same n).0 (steps-above.holds n p);
    least = λ K s arf h n p. least K arf (marks-held G K before start h) n ((g.same n).1 p);
  }
