use Rattle.sg_cut.proofs.Outcomes.{rest-append, statement-append, text-append, too_long-append}
use Rattle.sg_cut.proofs.laws.settled.Goals as goal

pub returns-clause-statement : goal.returns-clause-statement
returns-clause-statement c = λ bytes more whole later begin end s. statement-append bytes more begin end s

pub returns-clause-too_long : goal.returns-clause-too_long
returns-clause-too_long c = λ bytes more whole later begin t. too_long-append bytes more begin t

pub returns-clause-text : goal.returns-clause-text
returns-clause-text c = λ bytes more whole begin end s. text-append bytes more begin end s

pub returns-clause-rest : goal.returns-clause-rest
returns-clause-rest c = λ bytes more whole begin end s. rest-append bytes more begin end s
