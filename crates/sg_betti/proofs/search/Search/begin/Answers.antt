use Rattle.std.proofs.Common.{◌<◌, length, sym, ap, ◌∙◌, arith}
use Rattle.std.proofs.lemmas.Bool.{false≢true}
use Rattle.sg_betti.proofs.SearchLemmas.{others-passed, others-pushed, vertex-inside}
use Rattle.sg_betti.proofs.search.Search.begin.Goals as goal
use Rattle.sg_betti.proofs.search.Search.begin.Goals.{then-is_other_vertex+in_ok-push-2, else-is_other_vertex}

pub loop-place-preserved : goal.loop-place-preserved
loop-place-preserved c =
    let G = c.args.t.now in
    let n = c.args.n in
    let root = c.args.root in
    let place = c.loop-place.place in
    let inv = c.loop-place.invariant in
    let l = c.loop-place.self.left.items in
    elim c.if-is_other_vertex.branch [
      | then-is_other_vertex+in_ok-push-2 w ↦ record {
        waiting = rw w.self-is inv.waiting;
        left = rw w.self-is (others-pushed G n root place l w.push-then-is_other_vertex.new.self.items inv.left (c.is_other_vertex.ensures.0 w.if-is_other_vertex.true) w.in_ok-push-2.ensures.items);
      }
      | else-is_other_vertex w ↦ record {
        waiting = rw w.self-is inv.waiting;
        left = rw w.self-is (others-passed G n root place l inv.left (λ p. false≢true (sym w.if-is_other_vertex.false ∙ c.is_other_vertex.ensures.1 p)));
      }
    ]

pub returns-clause-left : goal.returns-clause-left
returns-clause-left c =
    let G = c.args.t.now in
    let inv = c.loop-place.invariant in
    λ k. (
      (λ h. ((inv.left k).0 h).1),
      (λ p.
          let inside = vertex-inside G c.args.n k p.0 in
          let less : k < c.loop-place.place = omega (arith, inside, c.loop-place-test.false, c.len-places.ensures, ap length c.generators.ensures.same) in
          (inv.left k).1 (less, p)),
    )
