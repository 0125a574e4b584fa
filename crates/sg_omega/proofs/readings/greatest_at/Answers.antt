use Rattle.std.proofs.Common.{ℕ, ◌+◌, ◌<◌, get_or, arith}
use Rattle.std.proofs.lemmas.List.Elements.{Contains-get_or}
use Rattle.sg_omega.proofs.ReadingLemmas.{greatest-all, greatest-more, greatest-none}
use Rattle.sg_omega.proofs.readings.greatest_at.Goals as goal

pub loop-n-init : goal.loop-n-init
loop-n-init c = greatest-none (λ n k. k < get_or c.args.table.now (n + c.args.v) 0)

pub overflow_add-n : goal.overflow_add-n
overflow_add-n c =
    omega (arith, c.requires.inside (get_or c.args.wanted.now c.loop-n.n-index 0) (Contains-get_or c.args.wanted.now c.loop-n.n-index 0 c.loop-n-test.true), c.requires.short)

pub offset_bounds-table-n : goal.offset_bounds-table-n
offset_bounds-table-n c =
    omega (arith, c.requires.inside (get_or c.args.wanted.now c.loop-n.n-index 0) (Contains-get_or c.args.wanted.now c.loop-n.n-index 0 c.loop-n-test.true), c.requires.short)

pub bounds-table-n : goal.bounds-table-n
bounds-table-n c = c.requires.inside (get_or c.args.wanted.now c.loop-n.n-index 0) (Contains-get_or c.args.wanted.now c.loop-n.n-index 0 c.loop-n-test.true)

pub loop-n-preserved : goal.loop-n-preserved
loop-n-preserved c =
    let R : ℕ → ℕ → Type 0 = λ n k. k < get_or c.args.table.now (n + c.args.v) 0 in
    rw c.max-greatest.ensures (greatest-more R c.args.wanted.now c.loop-n.n-index c.loop-n.greatest (get_or c.args.table.now (get_or c.args.wanted.now c.loop-n.n-index 0 + c.args.v) 0) c.loop-n-test.true c.loop-n.invariant
    (λ l. ((λ h. h), (λ h. h))))

pub returns : goal.returns
returns c =
    let R : ℕ → ℕ → Type 0 = λ n k. k < get_or c.args.table.now (n + c.args.v) 0 in
    greatest-all R c.args.wanted.now c.loop-n.n-index c.loop-n.greatest c.loop-n-test.false c.loop-n.invariant
