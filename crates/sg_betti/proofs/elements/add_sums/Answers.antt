use Rattle.std.proofs.Common.{◌≡◌, ◌+◌, ◌<◌, ◌≤◌, ◌∷◌, ◌++◌, [], ℕ, get_or, length, sym, ap, subst, ◌∙◌, arith}
use Rattle.std.specs.Prelude.{◌↔◌, Contains}
use Rattle.std.proofs.lemmas.Bool.{false≢true}
use Rattle.sg_betti.proofs.ElementLemmas.{IsOldOrSum, one-from_none, some-left, sum-vertex, sums-none, sums-passed, sums-taken, sums-whole, two-from_left}
use Rattle.sg_betti.proofs.elements.add_sums.Goals as goal
use Rattle.sg_betti.proofs.elements.add_sums.Goals.{then-not-reached_all+in_ok-push, else-not-reached_all}

pub loop-place-init : goal.loop-place-init
loop-place-init c = sums-none c.args.found.now.items c.args.t.now c.args.rest

pub overflow_add-n : goal.overflow_add-n
overflow_add-n c =
    let place = c.loop-place.place in
    let inside : place < length c.args.t.now = omega (arith, c.end_place-end.ensures.inside, c.loop-place-test.true) in
    omega (arith, c.requires.small place inside, ap (λ l. get_or l place 0) c.requires.same)

pub run-requires : goal.run-requires
run-requires c =
    let place = c.loop-place.place in
    let gens = c.args.generators.now in
    let inside : place < length c.args.t.now = omega (arith, c.end_place-end.ensures.inside, c.loop-place-test.true) in
    sum-vertex c.args.t.now c.args.rest place (c.args.rest + get_or gens place 0) inside c.requires.member (ap (λ l. c.args.rest + get_or l place 0) c.requires.same)

pub loop-place-preserved : goal.loop-place-preserved
loop-place-preserved c =
    let G = c.args.t.now in
    let rest = c.args.rest in
    let place = c.loop-place.place in
    let n = rest + get_or c.args.generators.now place 0 in
    let is : n ≡ rest + get_or G place 0 = ap (λ l. rest + get_or l place 0) c.requires.same in
    let inside : place < length G = omega (arith, c.end_place-end.ensures.inside, c.loop-place-test.true) in
    let later : 0 < place = omega (arith, c.loop-place.auto.place) in
    let some : 1 ≤ get_or G place 0 = c.requires.semigroup.positive place 0 inside in
    let above : 0 < n = omega (arith, is, some) in
    let v = sum-vertex G rest place n inside c.requires.member is in
    let left = c.run.new.self.left.items in
    let reached = c.run.new.self.reached.items in
    let parted = c.in_ok-run.ensures in
    let inv = c.loop-place.invariant in
    let l = c.loop-place.found.items in
    elim c.if-not-reached_all.branch [
      | then-not-reached_all+in_ok-push w ↦
          let none : left ≡ [] → ⊥ = λ e. false≢true (sym w.if-not-reached_all.true ∙ c.reached_all.ensures.1 e) in
          let k = some-left left none in
          let two = two-from_left G n place k.0 reached left v parted k.1 in
          let made : c.if-not-reached_all.found.items ≡ l ++ n ∷ [] = rw w.found-is w.in_ok-push.ensures.items in
          sums-taken (Contains c.args.found.now.items) G rest place n later is l c.if-not-reached_all.found.items inv two made
      | else-not-reached_all w ↦
          let e : left ≡ [] = c.reached_all.ensures.0 w.if-not-reached_all.false in
          rw w.found-is (sums-passed (Contains c.args.found.now.items) G rest place n later is l inv (one-from_none G n place reached left above parted e))
    ]

pub returns : goal.returns
returns c =
    let G = c.args.t.now in
    let rest = c.args.rest in
    let E = c.end_place-end.ensures in
    let end = c.end_place-end.result in
    let e : c.loop-place.place ≡ end = omega (arith, E.some, c.loop-place-test.false, c.loop-place.auto.place-end) in
    let all = subst (λ k. (m : ℕ) → Contains c.loop-place.found.items m ↔ IsOldOrSum (Contains c.args.found.now.items) G rest k m) e c.loop-place.invariant in
    λ m. sums-whole (Contains c.args.found.now.items) G rest end m E.inside E.exactly (Contains c.loop-place.found.items m) (all m)
