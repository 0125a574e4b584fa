use Rattle.std.proofs.Common.{◌≡◌, get_or, sym, ap, subst, ◌∙◌, inl, inr, arith}
use Rattle.std.specs.Prelude.{Contains}
use Rattle.std.proofs.lemmas.Bool.{cases_lt}
use Rattle.std.proofs.lemmas.Grind.{get_or_default_zero}
use Rattle.std.proofs.lemmas.List.Elements.{Contains-get_or}
use Rattle.sg_degrees.proofs.betti.greatest.Goals as goal

pub loop-value-preserved : goal.loop-value-preserved
loop-value-preserved c =
    let l = c.args.values.now in
    let i = c.loop-value.value-index in
    let g = c.loop-value.greatest in
    let h = c.loop-value.invariant in
    let e = c.max-greatest.ensures in
    record {
      bound = λ j less. elim (cases_lt j i) [
        | inl before ↦ omega (arith, e, h.bound j before)
        | inr at ↦ let same : j ≡ i = omega (arith, less, at) in omega (arith, e, ap (λ k. get_or l k 0) same)
      ];
      reached = elim (cases_lt g (get_or l i 0)) [
        | inl less ↦ inr (subst (Contains l) (let f : get_or l i 0 ≡ c.max-greatest.result = omega (arith, e, less) in f) (Contains-get_or l i 0 c.loop-value-test.true))
        | inr more ↦ let f : g ≡ c.max-greatest.result = omega (arith, e, more) in elim h.reached [
          | inl none ↦ inl (sym f ∙ none)
          | inr some ↦ inr (subst (Contains l) f some)
        ]
      ];
    }

pub returns-clause-bound : goal.returns-clause-bound
returns-clause-bound c = λ k d inside.
    let l = c.args.values.now in
    omega (arith, get_or_default_zero l k d inside, c.loop-value.invariant.bound k (omega (arith, inside, c.loop-value-test.false)))
