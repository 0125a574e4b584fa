use Rattle.std.proofs.Common.{◌≡◌, ℕ, suc, ◌+◌, length, replicate, set, sym, ap, subst, ◌∙◌, arith}
use Rattle.sg_omega.specs.Lengths.{AreGreatestMade}
use Rattle.sg_omega.proofs.PrimalityLemmas.{table-start}
use Rattle.sg_omega.proofs.lengths.start_table.Goals as goal

pub returns-clause-lengths : goal.returns-clause-lengths
returns-clause-lengths c G v =
    let e : c.args.top + 1 ≡ suc c.args.top = omega arith in
    let is : c.in_ok-table.table.items ≡ replicate (suc c.args.top) 0 = c.in_ok-table.ensures.items_if_clones_equal (λ y e. e) ∙ ap (λ n. replicate {A = ℕ} n 0) e in
    subst (λ l. AreGreatestMade G v (length G) (set l 0 1)) (sym is) (table-start G v c.args.top)
