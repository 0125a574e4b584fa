use Rattle.std.proofs.Common.{ℕ, Bor, ◌++◌, ◌∷◌, [], length, length-append, rules, arith}
use Rattle.std.proofs.lemmas.Slice.Zip.{zip_turn}
use Rattle.sg_nat.proofs.VectorLemmas.{meet-step}
use Rattle.sg_nat.proofs.vectors.meet.Goals as goal

pub loop-x-preserved : goal.loop-x-preserved
loop-x-preserved c =
    let pair : Bor ℕ × Bor ℕ = (c.in-Some.x, c.in-Some.y) in
    let longer = c.loop-x.yielded ++ pair ∷ [] in
    let turn = zip_turn c.args.a.now c.args.b.now c.loop-x.yielded c.into_iter-x-iterator.result c.loop-x.x-iterator c.next.new.self c.next.result (search rules) (search rules) c.loop-x.yielded_by pair (search rules) c.next.ensures.steps in
    meet-step c.args.a.now c.args.b.now c.loop-x.least c.push.new.self (length c.loop-x.yielded) (length longer) c.in-Some.x.now c.in-Some.y.now c.min.result turn.0 turn.1 (turn.2 0) (turn.3 0) (omega (arith, length-append c.loop-x.yielded (pair ∷ []))) c.min.ensures c.loop-x.invariant c.in_ok-push.ensures.ok
