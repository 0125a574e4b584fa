use Rattle.std.proofs.Common.{ℕ, List, sym, subst, arith}
use Rattle.std.specs.Prelude.{Some, None}
use Rattle.sg_defs.specs.Membership.{IsFactorization}
use Rattle.sg_nonunique.specs.Deltas.{IsMinDelta, IsMaxDelta}
use Rattle.sg_degrees.specs.Greatest.{IsGreatestOver}
use Rattle.sg_degrees.specs.Lengths.{IsWidest}
use Rattle.sg_degrees.proofs.BettiLemmas.{greatest-within, listed-values}
use Rattle.sg_degrees.proofs.DeltaLemmas.{max-from_values, max-none}
use Rattle.sg_degrees.proofs.deltas.max_delta.Goals as goal

pub new-requires : goal.new-requires
new-requires c =
    let G = c.args.t.now in
    let s = c.generators.ensures.semigroup in
    let betti = listed-values G s.positive c.args.p.now c.in_ok-found.found c.as_slice-values.result.now c.requires.canonical c.in_ok-found.ensures c.as_slice-values.ensures in
    greatest-within G c.as_slice-values.result.now c.greatest.result c.requires.presentable.span _ s.positive c.generators.ensures.minimal.ascending c.requires.presentable.is_span c.requires.presentable.short
    (λ n h. (betti n).0 h) c.greatest.ensures.reached

pub widest_delta-requires : goal.widest_delta-requires
widest_delta-requires c = λ k d l. omega (arith, c.greatest.ensures.bound k d l, c.in_ok-table.ensures.upto)

pub returns-in_default : goal.returns-in_default
returns-in_default c = max-none (IsFactorization c.args.t.now) (subst (λ (G : List ℕ). IsMinDelta (IsFactorization G) None) c.generators.ensures.same c.in_default.ensures)

pub returns : goal.returns
returns c =
    let G = c.args.t.now in
    let positive = c.generators.ensures.semigroup.positive in
    let values = c.as_slice-values.result.now in
    let betti = listed-values G positive c.args.p.now c.in_ok-found.found values c.requires.canonical c.in_ok-found.ensures c.as_slice-values.ensures in
    let least = subst (λ (H : List ℕ). IsMinDelta (IsFactorization H) (Some c.in-Some.least)) c.generators.ensures.same c.in-Some.ensures in
    let greatest = subst (λ (H : List ℕ). IsGreatestOver (λ (n : ℕ). IsWidest (IsFactorization H n)) values c.in_ok-widest.widest) c.in_ok-table.ensures.generators c.in_ok-widest.ensures in
    subst (λ d. IsMaxDelta (IsFactorization G) (Some d)) (sym c.max.ensures) (max-from_values G positive values betti c.in-Some.least c.in_ok-widest.widest least greatest)
