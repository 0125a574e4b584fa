use Rattle.std.proofs.Common.{ℕ, ◌-◌, ◌/◌, length, get_or, List, sym, subst}
use Rattle.std.specs.Int.{IsGcd}
use Rattle.sg_nonunique.specs.Elasticity.{IsElasticity}
use Rattle.sg_factor.proofs.ElasticityLemmas.{divisor-positive, is_elasticity}
use Rattle.sg_factor.proofs.quotient.elasticity_of.Goals as goal

pub nonzero_div-result : goal.nonzero_div-result
nonzero_div-result c =
    let is = subst (λ (l : List ℕ). IsGcd (get_or l 0 0) (get_or l (length l - 1) 0) c.gcd-common.result) c.as_slice-given.ensures c.gcd-common.ensures in
    divisor-positive c.args.generators.now c.requires.semigroup c.requires.ascending c.gcd-common.result is

pub nonzero_div-result-2 : goal.nonzero_div-result-2
nonzero_div-result-2 c =
    let is = subst (λ (l : List ℕ). IsGcd (get_or l 0 0) (get_or l (length l - 1) 0) c.gcd-common.result) c.as_slice-given.ensures c.gcd-common.ensures in
    divisor-positive c.args.generators.now c.requires.semigroup c.requires.ascending c.gcd-common.result is

pub returns : goal.returns
returns c =
    let l = c.as_slice-given.result.now in
    let g = c.gcd-common.result in
    let is = subst (λ (l : List ℕ). IsGcd (get_or l 0 0) (get_or l (length l - 1) 0) g) c.as_slice-given.ensures c.gcd-common.ensures in
    subst (λ (l : List ℕ). IsElasticity c.args.generators.now (get_or l (length l - 1) 0 / g) (get_or l 0 0 / g)) (sym c.as_slice-given.ensures)
    (is_elasticity c.args.generators.now c.requires.semigroup c.requires.ascending g is)
