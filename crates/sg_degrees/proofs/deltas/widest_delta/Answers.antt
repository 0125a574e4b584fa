use Rattle.std.proofs.Common.{◌+◌, ℕ, take, refl, sym, subst}
use Rattle.sg_defs.specs.Membership.{IsFactorization}
use Rattle.sg_degrees.specs.Greatest.{IsGreatestOver}
use Rattle.sg_degrees.specs.Lengths.{IsWidest}
use Rattle.sg_degrees.proofs.GreatestLemmas.{over-all, over-next, over-none}
use Rattle.sg_degrees.proofs.deltas.widest_delta.Goals as goal

pub loop-n-init : goal.loop-n-init
loop-n-init c = over-none (λ (n : ℕ). IsWidest (IsFactorization c.args.table.now.generators n)) (take 0 c.args.values.now) refl

pub widest_of-requires : goal.widest_of-requires
widest_of-requires c = c.requires c.loop-n.n-index 0 c.loop-n-test.true

pub loop-n-preserved : goal.loop-n-preserved
loop-n-preserved c =
    subst (IsGreatestOver (λ (n : ℕ). IsWidest (IsFactorization c.args.table.now.generators n)) (take (c.loop-n.n-index + 1) c.args.values.now)) (sym c.max-widest.ensures)
    (over-next (λ (n : ℕ). IsWidest (IsFactorization c.args.table.now.generators n)) c.args.values.now c.loop-n.n-index 0 c.in_ok-delta.delta c.loop-n.widest c.loop-n-test.true c.loop-n.invariant c.in_ok-delta.ensures)

pub returns : goal.returns
returns c = over-all (λ (n : ℕ). IsWidest (IsFactorization c.args.table.now.generators n)) c.args.values.now c.loop-n.n-index c.loop-n.widest c.loop-n-test.false c.loop-n.invariant
