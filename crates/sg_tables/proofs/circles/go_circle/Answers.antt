use Rattle.sg_tables.proofs.circles.go_circle.Goals as goal

pub returns-clause-known : goal.returns-clause-known
returns-clause-known c = λ M member known. c.steps_on.ensures.known M member (c.first_steps-from.ensures.known M member known)
