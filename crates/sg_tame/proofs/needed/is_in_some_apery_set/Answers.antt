use Rattle.std.proofs.Common.{◌≡◌, length, get_or, ap, subst, ◌∙◌, below_more, arith}
use Rattle.std.proofs.lemmas.Bool.{false≢true}
use Rattle.sg_omega.specs.Lengths.{IsLowered}
use Rattle.sg_tame.proofs.needed.is_in_some_apery_set.Goals as goal

pub loop-place-preserved : goal.loop-place-preserved
loop-place-preserved c =
    let G = c.args.t.now in
    let same : c.as_slice-generators.result.now ≡ G = c.as_slice-generators.ensures ∙ c.generators.ensures.same in
    below_more (λ j. IsLowered G c.args.member (get_or G j 0)) c.loop-place.place c.loop-place.invariant
    (subst (λ xs. IsLowered G c.args.member (get_or xs c.loop-place.place 0)) same (c.is_lowered.ensures.0 c.if-not-is_lowered.false))

pub returns : goal.returns
returns c =
    let G = c.args.t.now in
    let same : c.as_slice-generators.result.now ≡ G = c.as_slice-generators.ensures ∙ c.generators.ensures.same in (
      (λ e. absurd (false≢true e)),
      (λ r.
          let low = c.loop-place.invariant r.0 (omega (arith, r.1, c.loop-place-test.false, ap length same)) in
          absurd (r.2 low.0 low.1 low.2)),
    )
