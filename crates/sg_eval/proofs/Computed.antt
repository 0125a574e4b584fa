-- What operators of two integers give, at once.
use Rattle.std.proofs.Common.{◌≡◌, ℤ, pos, ◌+ℤ◌, ◌-ℤ◌, ◌*ℤ◌, Bool, [], Some, Ok, inl, inr, refl, ap, sym, subst}
use Rattle.std.specs.Prelude.{IsTrue, ◌<ℤ◌, ◌≤ℤ◌, ◌↔◌}
use Rattle.sg_value.specs.Data.{int, truth}
use Rattle.sg_rows.specs.Order.{Plain, Row, IsReply, IsReplyOf, Passes, fits, AreAsked}
use Rattle.sg_rows.specs.Values.{answers, an_integer, whether}
use Rattle.sg_rows.proofs.AskLemmas.{admitted}
use Rattle.sg_rows.proofs.Replying.{delivered, delivers_truth, answers_pass}
use Rattle.sg_calls.specs.Operations.{calculation}
use Rattle.sg_calls.specs.Remainders.{IsRemainder}
use Rattle.sg_calls.specs.declared.operator.Operator.{Operator}
use Rattle.sg_calls.specs.declared.operator.Operator.TheVariants as operator
use Rattle.sg_tree.specs.declared.expr.Op.{Op}
use Rattle.sg_tree.specs.declared.expr.Op.TheVariants.{Or, And, Plus, Less, Times, Mod}
use Rattle.sg_tree.specs.declared.expr.Rel.TheVariants.{Eq, Ne, Lt, Le, Gt, Ge}
use Rattle.sg_eval.specs.AtOnce.{Calculates, Compares}
use Rattle.sg_eval.specs.Linked.{arithmetic}

-- a row that gave a value refused nothing
passes : (row : Row) (d : Plain) → IsReplyOf row (Ok d) → Passes row
passes row d (inl h) = absurd (cc h.1)
passes row d (inr (a, inl h)) = absurd (cc h.1)
passes row d (inr (a, inr (b, inl h))) = absurd (cc h.1)
passes row d (inr (a, inr (b, inr (c, inl h)))) = absurd (cc h.1)
passes row d (inr (a, inr (b, inr (c, inr (e, inl h))))) = absurd (cc h.1)
passes row d (inr (a, inr (b, inr (c, inr (e, inr (f, h)))))) = record { size = a; bad = b; limit = c; many = e; budget = f }

-- a value of a row that asks for nothing
answered : (row : Row) (d : Plain) → row.late ≡ [] → IsReplyOf row (Ok d) → IsReplyOf row (Ok d) × AreAsked (fits [] row) []
answered row d late h = (h, inl (admitted row (passes row d h), sym late))

truth_answer : (b : Bool) (P : Type 0) → (IsTrue b ↔ P) → IsReplyOf (answers (whether P)) (Ok (truth b)) × AreAsked (fits [] (answers (whether P))) []
truth_answer b P h =
    answered (answers (whether P)) (truth b) refl (delivered (answers (whether P)) (truth b) (Ok (truth b)) (answers_pass (whether P)) (b, refl, h) (delivers_truth b))

-- what an operator of a chain gives of two integers
pub calculated_there : (op : Op) (o : Operator) (x y z : ℤ) → arithmetic op ≡ Some o → IsReply (calculation o x y) (Ok (int z)) → Calculates op x y z
calculated_there Or o x y z is h = absurd (cc)
calculated_there And o x y z is h = absurd (cc)
calculated_there Plus o x y z is h =
    let same : o ≡ operator.Plus = cc in
    (operator.Plus, refl, λ n. answered (answers (λ d. d ≡ int (x +ℤ y))) (int z) refl (subst (λ p. IsReply (calculation p x y) (Ok (int z))) same h))
calculated_there Less o x y z is h =
    let same : o ≡ operator.Less = cc in
    (operator.Less, refl, λ n. answered (answers (λ d. d ≡ int (x -ℤ y))) (int z) refl (subst (λ p. IsReply (calculation p x y) (Ok (int z))) same h))
calculated_there Times o x y z is h =
    let same : o ≡ operator.Times = cc in
    (operator.Times, refl, λ n. answered (answers (λ d. d ≡ int (x *ℤ y))) (int z) refl (subst (λ p. IsReply (calculation p x y) (Ok (int z))) same h))
calculated_there Mod o x y z is h =
    let same : o ≡ operator.Mod = cc in
    (operator.Mod, refl, λ n. answered (record (answers (an_integer (IsRemainder x y))) { bad = y ≡ pos 0 }) (int z) refl (subst (λ p. IsReply (calculation p x y) (Ok (int z))) same h))

-- comparisons
pub equal_there : (b : Bool) (x y : ℤ) → (IsTrue b ↔ (x ≡ y)) → Compares Eq x y b
equal_there b x y h = λ n. truth_answer b (int x ≡ int y) ((λ is. ap (λ z. int z) (h.0 is)), (λ is. h.1 (cc is)))

-- whether two integers differ
pub unequal_there : (b : Bool) (x y : ℤ) → (IsTrue b ↔ (x ≡ y → ⊥)) → Compares Ne x y b
unequal_there b x y h = λ n. truth_answer b (int x ≡ int y → ⊥) ((λ is differ. h.0 is (cc differ)), (λ differ. h.1 (λ is. differ (ap (λ z. int z) is))))

-- whether the first is less
pub less_there : (b : Bool) (x y : ℤ) → (IsTrue b ↔ (x <ℤ y)) → Compares Lt x y b
less_there b x y h = λ n. truth_answer b (x <ℤ y) h

-- whether the first is at most the second
pub at_most_there : (b : Bool) (x y : ℤ) → (IsTrue b ↔ (x ≤ℤ y)) → Compares Le x y b
at_most_there b x y h = λ n. truth_answer b (x ≤ℤ y) h

-- whether the first is greater
pub greater_there : (b : Bool) (x y : ℤ) → (IsTrue b ↔ (y <ℤ x)) → Compares Gt x y b
greater_there b x y h = λ n. truth_answer b (y <ℤ x) h

-- whether the first is at least the second
pub at_least_there : (b : Bool) (x y : ℤ) → (IsTrue b ↔ (y ≤ℤ x)) → Compares Ge x y b
at_least_there b x y h = λ n. truth_answer b (y ≤ℤ x) h
