use Rattle.std.proofs.Common.{ℕ, ◌+◌, ◌<◌, ◌≤◌, ◌^◌, [], List, length, sum, sym, ap, subst, ◌∙◌, ◌↔◌, arith}
use Rattle.std.specs.Prelude.{slice_index_or}
use Rattle.sg_factor.proofs.NoteLemmas.{read-row}
use Rattle.sg_tame.specs.Nearest.{IsNearVector}
use Rattle.sg_tame.specs.declared.nearest.TheConstants.{FAR}
use Rattle.sg_tame.proofs.NearestLemmas.{before-none, before-more, near-far, nearest-early, nearest-all}
use Rattle.sg_tame.proofs.nearest.nearest.Goals as goal

pub loop-other-init : goal.loop-other-init
loop-other-init c = before-none FAR c.args.rows.now c.args.from c.args.place

pub distance_at-requires-clause-inside : goal.distance_at-requires-clause-inside
distance_at-requires-clause-inside c =
    let rows = c.args.rows.now in
    let b = read-row rows c.loop-other.other c.index-rows-other.result c.as_slice.result.now c.loop-other-test.true c.as_slice.ensures c.index-rows-other.is in
    omega (arith, ap length b, c.requires.positive.1.places c.loop-other.other c.loop-other-test.true, c.requires.positive.1.inside)

pub distance_at-requires-clause-places : goal.distance_at-requires-clause-places
distance_at-requires-clause-places c =
    let rows = c.args.rows.now in
    let a = read-row rows c.args.from c.index-rows-from.result c.as_slice-vector.result.now c.requires.from c.as_slice-vector.ensures c.index-rows-from.is in
    let b = read-row rows c.loop-other.other c.index-rows-other.result c.as_slice.result.now c.loop-other-test.true c.as_slice.ensures c.index-rows-other.is in
    ap length a ∙ c.requires.positive.1.comparable.places c.args.from c.loop-other.other c.requires.from c.loop-other-test.true ∙ sym (ap length b)

pub distance_at-requires-clause-first : goal.distance_at-requires-clause-first
distance_at-requires-clause-first c =
    let rows = c.args.rows.now in
    let a = read-row rows c.args.from c.index-rows-from.result c.as_slice-vector.result.now c.requires.from c.as_slice-vector.ensures c.index-rows-from.is in
    subst (λ (v : List ℕ). sum v < 2 ^ 63) (sym a) (c.requires.positive.1.comparable.small c.args.from c.requires.from)

pub distance_at-requires-clause-second : goal.distance_at-requires-clause-second
distance_at-requires-clause-second c =
    let rows = c.args.rows.now in
    let b = read-row rows c.loop-other.other c.index-rows-other.result c.as_slice.result.now c.loop-other-test.true c.as_slice.ensures c.index-rows-other.is in
    subst (λ (v : List ℕ). sum v < 2 ^ 63) (sym b) (c.requires.positive.1.comparable.small c.loop-other.other c.loop-other-test.true)

pub loop-other-preserved : goal.loop-other-preserved
loop-other-preserved c =
    let rows = c.args.rows.now in
    let other = c.loop-other.other in
    let i = c.args.place in
    let a = read-row rows c.args.from c.index-rows-from.result c.as_slice-vector.result.now c.requires.from c.as_slice-vector.ensures c.index-rows-from.is in
    let b = read-row rows other c.index-rows-other.result c.as_slice.result.now c.loop-other-test.true c.as_slice.ensures c.index-rows-other.is in
    let here : (N : ℕ) → N < FAR → (c.distance_at.result ≤ N) ↔ IsNearVector (slice_index_or rows c.args.from []) (slice_index_or rows other []) i N =
    λ N less. subst (λ z. (c.distance_at.result ≤ N) ↔ IsNearVector z (slice_index_or rows other []) i N) a
    (subst (λ y. (c.distance_at.result ≤ N) ↔ IsNearVector c.as_slice-vector.result.now y i N) b (c.distance_at.ensures N less)) in
    before-more FAR rows c.args.from i other c.loop-other.least c.distance_at.result c.min-least.result c.loop-other.invariant here c.min-least.ensures

pub returns-then-least-enough : goal.returns-then-least-enough
returns-then-least-enough c =
    let rows = c.args.rows.now in
    let other = c.loop-other.other in
    let i = c.args.place in
    let a = read-row rows c.args.from c.index-rows-from.result c.as_slice-vector.result.now c.requires.from c.as_slice-vector.ensures c.index-rows-from.is in
    let b = read-row rows other c.index-rows-other.result c.as_slice.result.now c.loop-other-test.true c.as_slice.ensures c.index-rows-other.is in
    let here : (N : ℕ) → N < FAR → (c.distance_at.result ≤ N) ↔ IsNearVector (slice_index_or rows c.args.from []) (slice_index_or rows other []) i N =
    λ N less. subst (λ z. (c.distance_at.result ≤ N) ↔ IsNearVector z (slice_index_or rows other []) i N) a
    (subst (λ y. (c.distance_at.result ≤ N) ↔ IsNearVector c.as_slice-vector.result.now y i N) b (c.distance_at.ensures N less)) in
    let known = before-more FAR rows c.args.from i other c.loop-other.least c.distance_at.result c.min-least.result c.loop-other.invariant here c.min-least.ensures in
    nearest-early FAR rows c.args.from i (other + 1) c.min-least.result c.args.enough known (omega (arith, c.loop-other-test.true))
    (near-far FAR c.requires.positive.0 rows c.args.from i (omega arith) c.requires.positive.1 c.requires.from) c.if-least-enough.true

pub returns : goal.returns
returns c =
    let rows = c.args.rows.now in
    nearest-all FAR rows c.args.from c.args.place c.loop-other.other c.loop-other.least c.args.enough c.loop-other.invariant (omega (arith, c.loop-other.auto.other-end))
    (near-far FAR c.requires.positive.0 rows c.args.from c.args.place (omega arith) c.requires.positive.1 c.requires.from) c.max.result (omega (arith, c.loop-other-test.false)) c.max.ensures
