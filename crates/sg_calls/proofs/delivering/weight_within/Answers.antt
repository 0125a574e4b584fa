use Rattle.std.proofs.Common.{◌+◌, length, ap, arith}
use Rattle.std.proofs.lemmas.List.{take_all}
use Rattle.sg_rows.specs.Values.{weight_of_vectors}
use Rattle.sg_rows.proofs.Listing.{light}
use Rattle.sg_calls.proofs.Weights.{weight-front, weight-more}
use Rattle.sg_calls.proofs.delivering.weight_within.Goals as goal

pub returns-then-is_heavy : goal.returns-then-is_heavy
returns-then-is_heavy c =
    let vs = c.args.vectors.now in
    let i = c.loop-vector.vector-index in
    let more = weight-more vs i c.vector-item.result c.loop-vector-test.true c.vector-item.is in
    let front = weight-front vs (i + 1) in
    let places = ap length c.as_slice.ensures in
    let many = c.is_heavy.ensures.0 c.if-is_heavy.true in
    let before = c.loop-vector.invariant.0 in
    omega (arith, more, front, places, many, before)

pub loop-vector-preserved : goal.loop-vector-preserved
loop-vector-preserved c =
    let vs = c.args.vectors.now in
    let i = c.loop-vector.vector-index in
    let more = weight-more vs i c.vector-item.result c.loop-vector-test.true c.vector-item.is in
    let places = ap length c.as_slice.ensures in
    let before = c.loop-vector.invariant.0 in
    (omega (arith, more, places, before), light _ c.is_heavy.result c.if-is_heavy.false c.is_heavy.ensures.1)

pub returns : goal.returns
returns c =
    let vs = c.args.vectors.now in
    let all = ap weight_of_vectors (take_all c.loop-vector.vector-index vs c.loop-vector-test.false) in
    let before = c.loop-vector.invariant.0 in
    let low = c.loop-vector.invariant.1 in
    omega (arith, all, before, low)
