use Rattle.std.proofs.Common.{◌+◌, ℕ, take, refl, sym, subst}
use Rattle.sg_defs.specs.Membership.{IsFactorization}
use Rattle.sg_degrees.specs.Greatest.{IsGreatestOver}
use Rattle.sg_degrees.specs.Lengths.{IsLongestClass}
use Rattle.sg_degrees.proofs.GreatestLemmas.{over-all, over-next, over-none}
use Rattle.sg_degrees.proofs.degree.longest_of.Goals as goal

pub loop-n-init : goal.loop-n-init
loop-n-init c = over-none (λ (n : ℕ). IsLongestClass (IsFactorization c.args.t.now n)) (take 0 c.args.values.now) refl

pub longest_class-requires-clause-inside : goal.longest_class-requires-clause-inside
longest_class-requires-clause-inside c = c.requires.inside c.loop-n.n-index 0 c.loop-n-test.true

pub longest_class-requires-clause-betti : goal.longest_class-requires-clause-betti
longest_class-requires-clause-betti c = c.requires.betti c.loop-n.n-index 0 c.loop-n-test.true

pub loop-n-preserved : goal.loop-n-preserved
loop-n-preserved c =
    subst (IsGreatestOver (λ (n : ℕ). IsLongestClass (IsFactorization c.args.t.now n)) (take (c.loop-n.n-index + 1) c.args.values.now)) (sym c.max-longest.ensures)
    (over-next (λ (n : ℕ). IsLongestClass (IsFactorization c.args.t.now n)) c.args.values.now c.loop-n.n-index 0 c.in_ok-length.length c.loop-n.longest c.loop-n-test.true c.loop-n.invariant c.in_ok-length.ensures)

pub returns : goal.returns
returns c = over-all (λ (n : ℕ). IsLongestClass (IsFactorization c.args.t.now n)) c.args.values.now c.loop-n.n-index c.loop-n.longest c.loop-n-test.false c.loop-n.invariant
