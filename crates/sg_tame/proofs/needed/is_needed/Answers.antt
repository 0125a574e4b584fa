use Rattle.std.proofs.Common.{◌≡◌, length, get_or, refl, sym, ap, subst, ◌∙◌, below_more, arith}
use Rattle.std.proofs.lemmas.Bool.{false≢true}
use Rattle.sg_tame.specs.Needed.{IsNeededAt}
use Rattle.sg_tame.proofs.needed.is_needed.Goals as goal

pub loop-place-preserved : goal.loop-place-preserved
loop-place-preserved c =
    let G = c.args.t.now in
    let same : c.as_slice-generators.result.now ≡ G = c.as_slice-generators.ensures ∙ c.generators.ensures.same in
    below_more (λ j. IsNeededAt G c.args.v (get_or G j 0) → ⊥) c.loop-place.place c.loop-place.invariant
    (λ n. false≢true (sym c.if-is_needed_at.false ∙ c.is_needed_at.ensures.1 (subst (λ xs. IsNeededAt G c.args.v (get_or xs c.loop-place.place 0)) (sym same) n)))

pub returns-then-is_needed_at : goal.returns-then-is_needed_at
returns-then-is_needed_at c =
    let G = c.args.t.now in
    let same : c.as_slice-generators.result.now ≡ G = c.as_slice-generators.ensures ∙ c.generators.ensures.same in (
      (λ e. (
        c.loop-place.place,
        omega (arith, c.loop-place-test.true, ap length same),
        subst (λ xs. IsNeededAt G c.args.v (get_or xs c.loop-place.place 0)) same (c.is_needed_at.ensures.0 c.if-is_needed_at.true),
      )),
      (λ r. refl),
    )

pub returns : goal.returns
returns c =
    let same : c.as_slice-generators.result.now ≡ c.args.t.now = c.as_slice-generators.ensures ∙ c.generators.ensures.same in (
      (λ e. absurd (false≢true e)),
      (λ r. absurd (c.loop-place.invariant r.0 (omega (arith, r.1, c.loop-place-test.false, ap length same)) r.2)),
    )
