use Rattle.std.proofs.Common.{ℕ, Bor, ◌++◌, ◌∷◌, [], length, length-append, rules, arith}
use Rattle.std.proofs.lemmas.Slice.Zip.{zip_turn}
use Rattle.std.proofs.lemmas.List.Sums.{sum_by-take-le}
use Rattle.sg_nat.proofs.VectorLemmas.{excess-step}
use Rattle.sg_nat.proofs.vectors.excess.Goals as goal

pub overflow_add-total : goal.overflow_add-total
overflow_add-total c =
    let pair : Bor ℕ × Bor ℕ = (c.in-Some.x, c.in-Some.y) in
    let longer = c.loop-x.yielded ++ pair ∷ [] in
    let turn = zip_turn c.args.a.now c.args.b.now c.loop-x.yielded c.into_iter-x-iterator.result c.loop-x.x-iterator c.next.new.self c.next.result (search rules) (search rules) c.loop-x.yielded_by pair (search rules) c.next.ensures.steps in
    let more = excess-step c.args.a.now c.args.b.now (length c.loop-x.yielded) (length longer) c.in-Some.x.now c.in-Some.y.now c.loop-x.total turn.0 turn.1 (turn.2 0) (turn.3 0) (omega (arith, length-append c.loop-x.yielded (pair ∷ []))) c.loop-x.invariant.so_far c.loop-x.invariant.small in
    omega (arith, more.1, c.requires.small, c.saturating_sub-total.ensures, sum_by-take-le (λ z. z) c.args.a.now (length longer))

pub loop-x-preserved : goal.loop-x-preserved
loop-x-preserved c =
    let pair : Bor ℕ × Bor ℕ = (c.in-Some.x, c.in-Some.y) in
    let longer = c.loop-x.yielded ++ pair ∷ [] in
    let turn = zip_turn c.args.a.now c.args.b.now c.loop-x.yielded c.into_iter-x-iterator.result c.loop-x.x-iterator c.next.new.self c.next.result (search rules) (search rules) c.loop-x.yielded_by pair (search rules) c.next.ensures.steps in
    let more = excess-step c.args.a.now c.args.b.now (length c.loop-x.yielded) (length longer) c.in-Some.x.now c.in-Some.y.now c.loop-x.total turn.0 turn.1 (turn.2 0) (turn.3 0) (omega (arith, length-append c.loop-x.yielded (pair ∷ []))) c.loop-x.invariant.so_far c.loop-x.invariant.small in
    record { so_far = omega (arith, more.0, c.saturating_sub-total.ensures); small = omega (arith, more.1, c.saturating_sub-total.ensures) }
