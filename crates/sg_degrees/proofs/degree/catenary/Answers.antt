use Rattle.std.proofs.Common.{ℕ, length, sym, ap, subst, ◌∙◌, arith}
use Rattle.std.proofs.lemmas.Result.{IfOk-weaker}
use Rattle.sg_defs.specs.Membership.{IsFactorization}
use Rattle.sg_nonunique.specs.Catenary.{IsCatenary}
use Rattle.sg_degrees.specs.Greatest.{IsGreatestOver}
use Rattle.sg_degrees.specs.Lengths.{AreLeastLengths, IsLongestClass}
use Rattle.sg_degrees.proofs.BettiLemmas.{all-betti, greatest-within, listed-values}
use Rattle.sg_degrees.proofs.DegreeLemmas.{catenary-from_values}
use Rattle.sg_degrees.proofs.degree.catenary.Goals as goal

pub least_lengths-requires : goal.least_lengths-requires
least_lengths-requires c =
    let G = c.args.t.now in
    let s = c.generators.ensures.semigroup in
    let betti = listed-values G s.positive c.args.p.now c.in_ok-found.found c.as_slice-values.result.now c.requires.canonical c.in_ok-found.ensures c.as_slice-values.ensures in
    greatest-within G c.as_slice-values.result.now c.greatest.result c.requires.presentable.span _ s.positive c.generators.ensures.minimal.ascending c.requires.presentable.is_span c.requires.presentable.short
    (λ n h. (betti n).0 h) c.greatest.ensures.reached

pub longest_of-requires-clause-same : goal.longest_of-requires-clause-same
longest_of-requires-clause-same c = c.as_slice-generators.ensures ∙ c.generators.ensures.same

pub longest_of-requires-clause-semigroup : goal.longest_of-requires-clause-semigroup
longest_of-requires-clause-semigroup c = c.generators.ensures.semigroup

pub longest_of-requires-clause-lengths : goal.longest_of-requires-clause-lengths
longest_of-requires-clause-lengths c =
    let e = c.in_ok-least.ensures in
    let read : AreLeastLengths c.args.t.now c.in_ok-least.least = λ n l. e.each n (omega (arith, l, e.entries)) in
    subst (AreLeastLengths c.args.t.now) (sym c.as_slice.ensures) read

pub longest_of-requires-clause-inside : goal.longest_of-requires-clause-inside
longest_of-requires-clause-inside c = λ k d l.
    omega (arith, c.greatest.ensures.bound k d l, c.in_ok-least.ensures.entries, ap length c.as_slice.ensures)

pub longest_of-requires-clause-betti : goal.longest_of-requires-clause-betti
longest_of-requires-clause-betti c =
    let G = c.args.t.now in
    let betti = listed-values G c.generators.ensures.semigroup.positive c.args.p.now c.in_ok-found.found c.as_slice-values.result.now c.requires.canonical c.in_ok-found.ensures c.as_slice-values.ensures in
    all-betti G c.as_slice-values.result.now betti

pub returns : goal.returns
returns c =
    let G = c.args.t.now in
    let positive = c.generators.ensures.semigroup.positive in
    let values = c.as_slice-values.result.now in
    let betti = listed-values G positive c.args.p.now c.in_ok-found.found values c.requires.canonical c.in_ok-found.ensures c.as_slice-values.ensures in
    IfOk-weaker c.longest_of.result (IsGreatestOver (λ (n : ℕ). IsLongestClass (IsFactorization G n)) values) (IsCatenary (IsFactorization G)) (catenary-from_values G positive values betti) c.longest_of.ensures
