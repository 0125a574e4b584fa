use Rattle.std.proofs.Common.{subst}
use Rattle.sg_tame.specs.Answers.{IsTameAnswer}
use Rattle.sg_rows_tame.proofs.Telling.{tame-small, tells_degree}
use Rattle.sg_rows_tame.proofs.row.tell.Goals as goal

pub returns-in-Degree : goal.returns-in-Degree
returns-in-Degree c =
    let G = c.args.table.now in
    let own = c.generators-generators.ensures in
    let N = c.in-Degree.degree in
    let is = subst (λ a. IsTameAnswer G a) c.in-Degree.is c.requires.answer in
    tells_degree G c.requires.tameable N (tame-small G own.semigroup own.minimal c.requires.tameable N is.0) is.0 is.1
