use Rattle.std.proofs.Common.{◌≡◌, ◌+◌, ◌-◌, ◌<◌, ℕ, length, refl, sym, subst, arith}
use Rattle.sg_defs.specs.Membership.{IsFactorization}
use Rattle.sg_nonunique.specs.Presentations.{Relation}
use Rattle.sg_laws_families.specs.PlaceGraph.{IsVertex}
use Rattle.sg_betti.specs.Raised.{IsGreatestFrom, head_of}
use Rattle.sg_betti.proofs.ElementLemmas.{betti-positive}
use Rattle.sg_betti.proofs.RelationLemmas.{AddsRows, head-vertex, rows-all, rows-none, rows-pushed, some-row}
use Rattle.sg_betti.proofs.canonical.add_pairs.Goals as goal

pub head-place-requires-clause-not_empty : goal.head-place-requires-clause-not_empty
head-place-requires-clause-not_empty c = c.requires.components.not_empty

pub greatest_from-requires-clause-place : goal.greatest_from-requires-clause-place
greatest_from-requires-clause-place c =
    let G = c.args.t.now in
    let n = c.args.n in
    let rows = c.args.rows.now in
    let positive = c.requires.semigroup.positive in
    let above = betti-positive G n positive c.requires.betti in
    let some = some-row G n positive above rows c.requires.components c.requires.betti.0 c.requires.betti.2 in
    subst (IsVertex (IsFactorization G n)) (sym c.head-place.ensures) (head-vertex G n positive above rows c.requires.components c.loop-k.k c.loop-k-test.true)

pub loop-k-init : goal.loop-k-init
loop-k-init c =
    let G = c.args.t.now in
    let n = c.args.n in
    let rows = c.args.rows.now in
    let positive = c.requires.semigroup.positive in
    let above = betti-positive G n positive c.requires.betti in
    let some = some-row G n positive above rows c.requires.components c.requires.betti.0 c.requires.betti.2 in
    rows-none G n positive above rows c.requires.components c.args.left.now some c.requires.root c.args.list.now

pub loop-k-preserved : goal.loop-k-preserved
loop-k-preserved c =
    let G = c.args.t.now in
    let n = c.args.n in
    let rows = c.args.rows.now in
    let positive = c.requires.semigroup.positive in
    let above = betti-positive G n positive c.requires.betti in
    let some = some-row G n positive above rows c.requires.components c.requires.betti.0 c.requires.betti.2 in
    let k = c.loop-k.k in
    let left = c.args.left.now in
    let s : Relation ℕ = record { value = n; left = c.in_ok-same.same; right = c.in_ok-right.right } in
    let back : k - 1 + 1 ≡ k = omega (arith, c.loop-k.auto.k) in
    let inside : k - 1 + 1 < length rows = omega (arith, back, c.loop-k-test.true) in
    let g = subst (λ i. IsGreatestFrom G n i c.in_ok-right.right) c.head-place.ensures c.in_ok-right.ensures in
    let right : IsGreatestFrom G n (head_of rows (k - 1 + 1)) c.in_ok-right.right = subst (λ j. IsGreatestFrom G n (head_of rows j) c.in_ok-right.right) (sym back) g in
    let next = rows-pushed G n positive above rows c.requires.components left some c.requires.root (k - 1) c.args.list.now c.loop-k.list c.push.new.self s inside c.loop-k.invariant refl c.in_ok-same.ensures right c.in_ok-push.ensures.ok in
    subst (λ j. AddsRows G n rows left j c.args.list.now c.push.new.self) (let e : k - 1 + 1 ≡ k + 1 - 1 = omega (arith, back) in e) next

pub returns : goal.returns
returns c =
    let G = c.args.t.now in
    let n = c.args.n in
    let rows = c.args.rows.now in
    let positive = c.requires.semigroup.positive in
    let above = betti-positive G n positive c.requires.betti in
    let some = some-row G n positive above rows c.requires.components c.requires.betti.0 c.requires.betti.2 in
    let all : c.loop-k.k - 1 + 1 ≡ length rows = omega (arith, some, c.loop-k.auto.k, c.loop-k.auto.k-end, c.loop-k-test.false) in
    rows-all G n positive above rows c.requires.components c.args.left.now some c.requires.root (c.loop-k.k - 1) c.args.list.now c.loop-k.list all c.loop-k.invariant
