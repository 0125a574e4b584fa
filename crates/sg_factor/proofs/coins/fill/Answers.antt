use Rattle.std.proofs.Common.{◌≡◌, ◌-◌, length, drop, get_or, set, sym, subst, ap, inl, inr, arith}
use Rattle.std.proofs.lemmas.Bool.{cases_eq}
use Rattle.std.proofs.lemmas.List.{drop_all, length-set, get_or-set_same, get_or-set_other}
use Rattle.sg_factor.specs.Coins.{AreLeastCounts}
use Rattle.sg_factor.proofs.CoinLemmas.{counts-none, from-place}
use Rattle.sg_factor.proofs.coins.fill.Goals as goal

pub loop-step-init : goal.loop-step-init
loop-step-init c =
    let t = c.args.table.now in
    record {
      bounded = λ x l. elim (cases_eq x 0) [
        | inl e ↦ omega (arith, ap (λ k. get_or (set t 0 0) k 0) e, get_or-set_same t 0 0 0 c.requires.not_empty)
        | inr other ↦ omega (arith, get_or-set_other t 0 x 0 0 other, c.requires.empty x (omega (arith, l, length-set t 0 0)))
      ];
      counts = subst (λ D. AreLeastCounts D (set t 0 0)) (sym (drop_all (length c.args.coins.now - 0) c.args.coins.now (omega arith))) (counts-none t c.requires.not_empty c.requires.empty);
    }

pub loop-step-preserved : goal.loop-step-preserved
loop-step-preserved c = record {
  bounded = c.add_coin.ensures.bounded;
  counts = subst (λ D. AreLeastCounts D c.add_coin.new.table) (sym (from-place c.args.coins.now c.loop-step.step c.loop-step-test.true))
      (c.add_coin.ensures.counts (drop (length c.args.coins.now - c.loop-step.step) c.args.coins.now) c.loop-step.invariant.counts);
}

pub returns : goal.returns
returns c =
    let none : length c.args.coins.now - c.loop-step.step ≡ 0 = omega (arith, c.loop-step-test.false) in
    subst (λ k. AreLeastCounts (drop k c.args.coins.now) c.loop-step.table) none c.loop-step.invariant.counts
