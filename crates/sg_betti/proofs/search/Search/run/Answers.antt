use Rattle.std.proofs.Common.{[], ℕ, sym, subst, inr, arith}
use Rattle.std.specs.Prelude.{◌↔◌, ◌⊎◌, Contains}
use Rattle.std.proofs.lemmas.Bool.{false≢true}
use Rattle.std.proofs.lemmas.List.Elements.{Contains-push}
use Rattle.sg_betti.specs.Links.{IsLink}
use Rattle.sg_betti.proofs.SearchLemmas.{IsSearch, connected-vertex, search-begins, search-ends, search-goes_on, vertex-inside}
use Rattle.sg_betti.proofs.SetLemmas.{from-emptied, nil-from_short}
use Rattle.sg_betti.proofs.search.Search.run.Goals as goal

pub loop-place-init : goal.loop-place-init
loop-place-init c =
    let G = c.args.t.now in
    let n = c.args.n in
    let root = c.args.root in
    let left = c.begin.new.self.left.items in
    subst (λ r. IsSearch G n root r c.begin.new.self.waiting.items left) (sym c.in_ok-begin.ensures.reached)
    (subst (λ w. IsSearch G n root [] w left) (sym c.in_ok-begin.ensures.waiting) (search-begins G n root left c.requires c.in_ok-begin.ensures.left))

pub part-requires-clause-place : goal.part-requires-clause-place
part-requires-clause-place c =
    let place = c.in-Some.place in
    let waits = subst (λ l. Contains l place) (sym c.in-Some.ensures.items) (Contains-push c.pop.new.self.items place) in
    vertex-inside c.args.t.now c.args.n place (connected-vertex c.args.t.now c.args.n c.args.root place (c.loop-place.invariant.connected place (inr waits)))

pub part-requires-clause-left : goal.part-requires-clause-left
part-requires-clause-left c =
    λ k h. vertex-inside c.args.t.now c.args.n k (c.loop-place.invariant.vertices k (subst (λ l. Contains l k) c.deref.ensures.value h))

pub loop-place-preserved : goal.loop-place-preserved
loop-place-preserved c =
    let G = c.args.t.now in
    let n = c.args.n in
    let place = c.in-Some.place in
    let left = c.loop-place.self.left.items in
    let rest = c.pop.new.self.items in
    let new = c.part.new.near.items in
    let far = c.part.new.far.items in
    let near : (k : ℕ) → Contains new k ↔ (Contains rest k ⊎ (Contains left k × IsLink G n place k)) =
    subst (λ l. (k : ℕ) → Contains new k ↔ (Contains rest k ⊎ (Contains l k × IsLink G n place k))) c.deref.ensures.value c.in_ok-part.ensures.near in
    let apart : (k : ℕ) → Contains far k ↔ (Contains c.clear.new.self.items k ⊎ (Contains left k × ¬ IsLink G n place k)) =
    subst (λ l. (k : ℕ) → Contains far k ↔ (Contains c.clear.new.self.items k ⊎ (Contains l k × ¬ IsLink G n place k))) c.deref.ensures.value c.in_ok-part.ensures.far in
    let away : (k : ℕ) → Contains far k ↔ (Contains left k × ¬ IsLink G n place k) =
    λ k. from-emptied c.clear.new.self.items (λ j. Contains left j × ¬ IsLink G n place j) k far c.clear.ensures.items (apart k) in
    rw c.swap.ensures.x_after
    (search-goes_on G n c.args.root place c.loop-place.self.reached.items c.loop-place.self.waiting.items left rest c.push.new.self.items new far c.loop-place.invariant
    c.in-Some.ensures.items c.in_ok-push.ensures.items near away)

pub returns : goal.returns
returns c =
    search-ends c.args.t.now c.args.n c.args.root c.loop-place.self.reached.items c.loop-place.self.waiting.items c.loop-place.self.left.items
    (nil-from_short c.loop-place.self.waiting.items (λ some. false≢true (c.in_default.ensures.variant.1 (omega (arith, c.loop-place.self.waiting.ok.0, some)))))
    c.loop-place.invariant
