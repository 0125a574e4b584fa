use Rattle.std.proofs.Common.{◌≡◌, ◌<◌, length, get_or, refl, sym, ap, subst, ◌∙◌, below_more, arith}
use Rattle.std.proofs.lemmas.Bool.{false≢true}
use Rattle.sg_nonunique.proofs.PlaceLemmas.{inside}
use Rattle.sg_omega.specs.Lengths.{IsInAperySet, IsLowered}
use Rattle.sg_tame.proofs.needed.is_used_minimally.Goals as goal

pub bounds-generators-place : goal.bounds-generators-place
bounds-generators-place c =
    let same : c.as_slice-generators.result.now ≡ c.args.t.now = c.as_slice-generators.ensures ∙ c.generators.ensures.same in
    omega (arith, c.loop-place-test.true, ap length same, c.requires)

pub loop-place-preserved : goal.loop-place-preserved
loop-place-preserved c =
    let G = c.args.t.now in
    let z = c.args.vector.now in
    let place = c.loop-place.place in
    let w = c.args.member in
    let same : c.as_slice-generators.result.now ≡ G = c.as_slice-generators.ensures ∙ c.generators.ensures.same in
    below_more (λ j. 0 < get_or z j 0 → IsInAperySet G w (get_or G j 0)) place c.loop-place.invariant
    (λ some y e m. false≢true (sym c.if-is_spare.false ∙ c.is_spare.ensures.1 (some, subst (λ xs. IsLowered G w (get_or xs place 0)) (sym same) (y, e, m))))

pub returns-then-is_spare : goal.returns-then-is_spare
returns-then-is_spare c =
    let G = c.args.t.now in
    let place = c.loop-place.place in
    let w = c.args.member in
    let same : c.as_slice-generators.result.now ≡ G = c.as_slice-generators.ensures ∙ c.generators.ensures.same in
    let spare = c.is_spare.ensures.0 c.if-is_spare.true in
    let low = subst (λ xs. IsLowered G w (get_or xs place 0)) same spare.1 in (
      (λ e. absurd (false≢true e)),
      (λ u. absurd (u place spare.0 low.0 low.1 low.2)),
    )

pub returns : goal.returns
returns c = (
  (λ e j some. c.loop-place.invariant j (omega (arith, inside c.args.vector.now j some, c.loop-place-test.false)) some),
  (λ u. refl),
)
