use Rattle.std.proofs.Common.{ℕ, cond, take, drop, ap, arith, take-add}
use Rattle.std.specs.Prelude.{◌==◌}
use Rattle.std.proofs.lemmas.List.Sums.{sum_by-append}
use Rattle.sg_cut.specs.Lines.{count_of_line_feeds}
use Rattle.sg_cut.proofs.laws.lines.Goals as goal

pub returns-clause-further : goal.returns-clause-further
returns-clause-further c = λ bytes place more.
    let parted = ap count_of_line_feeds (take-add place more bytes) in
    let counted = sum_by-append (λ (b : ℕ). cond (b == 10) 1 0) (take place bytes) (take more (drop place bytes)) in
    omega (arith, parted, counted)
