use Rattle.std.proofs.Common.{ap, flat_map}
use Rattle.std.proofs.lemmas.List.{take_all}
use Rattle.sg_value.proofs.Fronts.{Adds_err, Adds_each, next_added, next_front}
use Rattle.sg_value.proofs.Pieces.{flat_map-next}
use Rattle.sg_value.specs.Text.{escaped}
use Rattle.sg_value.proofs.text.add_escaped.Goals as goal

pub returns-in_err-add_escaped_byte : goal.returns-in_err-add_escaped_byte
returns-in_err-add_escaped_byte c =
    let next = flat_map-next escaped c.args.text.now c.loop-byte.byte-index 0 c.loop-byte-test.true in
    Adds_err _ _ _ _ c.from_residual.ensures.0 (next_front _ _ _ _ _ _ _ next c.loop-byte.invariant c.in_err-add_escaped_byte.ensures.err)

pub loop-byte-preserved : goal.loop-byte-preserved
loop-byte-preserved c =
    let next = flat_map-next escaped c.args.text.now c.loop-byte.byte-index 0 c.loop-byte-test.true in
    next_added _ _ _ _ _ _ _ next c.loop-byte.invariant c.in_ok-add_escaped_byte.ensures.ok

pub returns : goal.returns
returns c = Adds_each _ _ _ _ (ap (flat_map escaped) (take_all c.loop-byte.byte-index c.args.text.now c.loop-byte-test.false)) c.loop-byte.invariant
