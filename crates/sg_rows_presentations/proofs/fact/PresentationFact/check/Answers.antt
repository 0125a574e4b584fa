use Rattle.sg_rows_presentations.proofs.Telling.{passes, refuses}
use Rattle.sg_rows_presentations.proofs.fact.PresentationFact.check.Goals as goal
use Rattle.std.proofs.Common.{sym, ◌∙◌}
use Rattle.std.proofs.lemmas.Bool.{false≢true}

pub returns-then-is_presentable : goal.returns-then-is_presentable
returns-then-is_presentable c = passes c.args.self c.args.table.now (c.is_presentable.ensures.0 c.if-is_presentable.true)

pub returns-else-is_presentable : goal.returns-else-is_presentable
returns-else-is_presentable c = refuses c.args.self c.args.table.now (λ h. false≢true (sym c.if-is_presentable.false ∙ c.is_presentable.ensures.1 h))
