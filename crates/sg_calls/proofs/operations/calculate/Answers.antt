use Rattle.std.proofs.Common.{◌≡◌, ◌+ℤ◌, ◌-ℤ◌, ◌*ℤ◌, ℤ, pos, Ok, ap, refl, sym, ◌∙◌, subst, arith, rules}
use Rattle.std.specs.Prelude.{FitsSigned, SomeIff, ◌<ℤ◌, ◌≤ℤ◌, unsigned_abs}
use Rattle.std.specs.Int.{w64}
use Rattle.std.proofs.lemmas.Int.{ints, to_z-of_z}
use mir.Val.{to_z, of_z}
use lib.Signed.{le_z, lt_z}
use Rattle.sg_value.specs.Data.{int}
use Rattle.sg_value.specs.declared.value.Value.TheVariants as value
use Rattle.sg_rows.specs.Replies.{Replies}
use Rattle.sg_rows.specs.Values.{an_integer, answers}
use Rattle.sg_rows.proofs.Replying.{contents-Int, replies_integer, replies_truth}
use Rattle.sg_rows.proofs.Signed.{of_bits}
use Rattle.sg_calls.specs.Operations.{calculation}
use Rattle.sg_calls.specs.Remainders.{IsRemainder}
use Rattle.sg_calls.proofs.operations.calculate.Goals as goal

pub returns-in-Plus : goal.returns-in-Plus
returns-in-Plus c = λ store. subst (λ op. Replies c.integer.result store (calculation op c.args.x c.args.y)) (sym c.in-Plus.is)
    (c.integer.ensures store (c.args.x +ℤ c.args.y)
    (of_bits (λ x y. SomeIff c.checked_add.result (FitsSigned w64 (x +ℤ y)) (x +ℤ y)) c.args.x c.args.y c.ranges.x c.ranges.y c.checked_add.ensures))

pub returns-in-Less : goal.returns-in-Less
returns-in-Less c = λ store. subst (λ op. Replies c.integer-in-Less.result store (calculation op c.args.x c.args.y)) (sym c.in-Less.is)
    (c.integer-in-Less.ensures store (c.args.x -ℤ c.args.y)
    (of_bits (λ x y. SomeIff c.checked_sub.result (FitsSigned w64 (x -ℤ y)) (x -ℤ y)) c.args.x c.args.y c.ranges.x c.ranges.y c.checked_sub.ensures))

pub returns-in-Times : goal.returns-in-Times
returns-in-Times c = λ store. subst (λ op. Replies c.integer-in-Times.result store (calculation op c.args.x c.args.y)) (sym c.in-Times.is)
    (c.integer-in-Times.ensures store (c.args.x *ℤ c.args.y)
    (of_bits (λ x y. SomeIff c.checked_mul.result (FitsSigned w64 (x *ℤ y)) (x *ℤ y)) c.args.x c.args.y c.ranges.x c.ranges.y c.checked_mul.ensures))

-- there is no remainder by 0
nonzero : (x y r : ℤ) → IsRemainder x y r → y ≡ pos 0 → ⊥
nonzero x y r h is =
    let low : r <ℤ pos 0 = subst (λ z. r <ℤ pos (unsigned_abs z)) is h.below in
    omega (arith, ints, h.from)

pub returns-in-Some : goal.returns-in-Some
returns-in-Some c = λ store.
    let x = c.args.x in
    let y = c.args.y in
    let z = c.in-Some.z in
    let fit : FitsSigned w64 z = search rules in
    let rest = of_bits (λ a b. IsRemainder a b z) x y c.ranges.x c.ranges.y c.in-Some.ensures in
    let v = value.Int (to_z w64 (of_z w64 z)) in
    subst (λ op. Replies (Ok v) store (calculation op x y)) (sym c.in-Mod.is)
    (replies_integer store (record (answers (an_integer (IsRemainder x y))) { bad = y ≡ pos 0 }) z v (contents-Int (to_z w64 (of_z w64 z)) ∙ ap int (to_z-of_z w64 z fit)) fit
    (record { size = λ h. h; bad = nonzero x y z rest; limit = λ h. h; many = λ h. h; budget = λ h. h }) (z, refl, rest))

pub returns-in-Lt : goal.returns-in-Lt
returns-in-Lt c = λ store.
    let b = lt_z (to_z w64 (of_z w64 c.args.x)) (to_z w64 (of_z w64 c.args.y)) in
    subst (λ op. Replies (Ok (value.Bool b)) store (calculation op c.args.x c.args.y)) (sym c.in-Lt.is) (replies_truth store b (value.Bool b) (c.args.x <ℤ c.args.y) refl (search rules))

pub returns-in-Le : goal.returns-in-Le
returns-in-Le c = λ store.
    let b = le_z (to_z w64 (of_z w64 c.args.x)) (to_z w64 (of_z w64 c.args.y)) in
    subst (λ op. Replies (Ok (value.Bool b)) store (calculation op c.args.x c.args.y)) (sym c.in-Le.is) (replies_truth store b (value.Bool b) (c.args.x ≤ℤ c.args.y) refl (search rules))

pub returns-in-Gt : goal.returns-in-Gt
returns-in-Gt c = λ store.
    let b = lt_z (to_z w64 (of_z w64 c.args.y)) (to_z w64 (of_z w64 c.args.x)) in
    subst (λ op. Replies (Ok (value.Bool b)) store (calculation op c.args.x c.args.y)) (sym c.in-Gt.is) (replies_truth store b (value.Bool b) (c.args.y <ℤ c.args.x) refl (search rules))

pub returns-in-Ge : goal.returns-in-Ge
returns-in-Ge c = λ store.
    let b = le_z (to_z w64 (of_z w64 c.args.y)) (to_z w64 (of_z w64 c.args.x)) in
    subst (λ op. Replies (Ok (value.Bool b)) store (calculation op c.args.x c.args.y)) (sym c.in-Ge.is) (replies_truth store b (value.Bool b) (c.args.y ≤ℤ c.args.x) refl (search rules))
