use Rattle.std.proofs.Common.{◌≡◌, ℕ, ◌<◌, ◌^◌, [], List, length, set, sum, sym, ap, subst, ◌∙◌, inl, inr, arith}
use Rattle.std.specs.Prelude.{slice_index, slice_index_or}
use Rattle.std.proofs.lemmas.Bool.{cases_lt}
use Rattle.std.proofs.lemmas.List.{set-get_or}
use Rattle.sg_defs.specs.Vectors.{distance}
use Rattle.sg_factor.specs.declared.catenary.TheConstants.{REACHED}
use Rattle.sg_factor.proofs.NoteLemmas.{noted-first, noted-next, read-row}
use Rattle.sg_factor.proofs.catenary.note_distances.Goals as goal

pub loop-place-init : goal.loop-place-init
loop-place-init c = noted-first c.args.rows.now REACHED c.args.from c.args.near.now

pub nearer-requires-clause-places : goal.nearer-requires-clause-places
nearer-requires-clause-places c =
    let rows = c.args.rows.now in
    let inside : c.loop-place.place < length rows = omega (arith, c.loop-place-test.true, c.requires.long) in
    let a = read-row rows c.args.from c.index-rows-from.result c.as_slice-vector.result.now c.requires.from c.as_slice-vector.ensures c.index-rows-from.is in
    let b = read-row rows c.loop-place.place c.index-rows-place.result c.as_slice.result.now inside c.as_slice.ensures c.index-rows-place.is in
    ap length a ∙ c.requires.comparable.places c.args.from c.loop-place.place c.requires.from inside ∙ sym (ap length b)

pub nearer-requires-clause-first : goal.nearer-requires-clause-first
nearer-requires-clause-first c =
    let rows = c.args.rows.now in
    let a = read-row rows c.args.from c.index-rows-from.result c.as_slice-vector.result.now c.requires.from c.as_slice-vector.ensures c.index-rows-from.is in
    subst (λ (v : List ℕ). sum v < 2 ^ 63) (sym a) (c.requires.comparable.small c.args.from c.requires.from)

pub nearer-requires-clause-second : goal.nearer-requires-clause-second
nearer-requires-clause-second c =
    let rows = c.args.rows.now in
    let inside : c.loop-place.place < length rows = omega (arith, c.loop-place-test.true, c.requires.long) in
    let b = read-row rows c.loop-place.place c.index-rows-place.result c.as_slice.result.now inside c.as_slice.ensures c.index-rows-place.is in
    subst (λ (v : List ℕ). sum v < 2 ^ 63) (sym b) (c.requires.comparable.small c.loop-place.place inside)

pub loop-place-preserved : goal.loop-place-preserved
loop-place-preserved c =
    let rows = c.args.rows.now in
    let near = c.loop-place.near in
    let place = c.loop-place.place in
    let inside : place < length rows = omega (arith, c.loop-place-test.true, c.requires.long) in
    let within : place < length near = omega (arith, c.loop-place-test.true, c.loop-place.auto.near) in
    let a = read-row rows c.args.from c.index-rows-from.result c.as_slice-vector.result.now c.requires.from c.as_slice-vector.ensures c.index-rows-from.is in
    let b = read-row rows place c.index-rows-place.result c.as_slice.result.now inside c.as_slice.ensures c.index-rows-place.is in
    let d = distance c.as_slice-vector.result.now c.as_slice.result.now in
    let is : d ≡ distance (slice_index_or rows c.args.from []) (slice_index_or rows place []) =
    ap (λ v. distance v c.as_slice.result.now) a ∙ ap (λ v. distance (slice_index_or rows c.args.from []) v) b in
    elim (cases_lt (slice_index near place) REACHED) [
      | inl less ↦ noted-next rows REACHED c.args.from c.args.near.now near (set near place c.nearer.result) place d within is
          (inl (less, ap (set near place) (c.nearer.ensures.noted less))) c.loop-place.invariant
      | inr more ↦ noted-next rows REACHED c.args.from c.args.near.now near (set near place c.nearer.result) place d within is
          (inr (more, ap (set near place) (c.nearer.ensures.kept more) ∙ set-get_or near place 0)) c.loop-place.invariant
    ]

pub returns-clause-kept : goal.returns-clause-kept
returns-clause-kept c = λ j l reached. c.loop-place.invariant.kept j (omega (arith, l, c.loop-place-test.false)) l reached

pub returns-clause-noted : goal.returns-clause-noted
returns-clause-noted c = λ j l less. c.loop-place.invariant.noted j (omega (arith, l, c.loop-place-test.false)) l less
