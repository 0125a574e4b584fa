use Rattle.std.specs.Fmt.{signed_decimal}
use Rattle.std.proofs.Common.{◌≤◌, length, map}
use Rattle.std.proofs.lemmas.List.{length-map}
use Rattle.sg_value.proofs.Fronts.{Adds_err, Adds_each, next_added, next_front}
use Rattle.sg_value.proofs.Pieces.{joined-all, integers-next}
use Rattle.sg_value.proofs.text.add_each_integer.Goals as goal

pub returns-in_err-add_separated_integer : goal.returns-in_err-add_separated_integer
returns-in_err-add_separated_integer c =
    let next = integers-next c.args.numbers.now c.loop-i.i c.loop-i-test.true in
    Adds_err _ _ _ _ c.from_residual.ensures.0 (next_front _ _ _ _ _ _ _ next c.loop-i.invariant c.in_err-add_separated_integer.ensures.err)

pub loop-i-preserved : goal.loop-i-preserved
loop-i-preserved c =
    let next = integers-next c.args.numbers.now c.loop-i.i c.loop-i-test.true in
    next_added _ _ _ _ _ _ _ next c.loop-i.invariant c.in_ok-add_separated_integer.ensures.ok

pub returns : goal.returns
returns c =
    let done : length (map signed_decimal c.args.numbers.now) ≤ c.loop-i.i = rw length-map c.loop-i-test.false in
    Adds_each _ _ _ _ (joined-all _ _ done) c.loop-i.invariant
