use Rattle.std.proofs.Common.{refl}
use Rattle.sg_eval.proofs.Growing.{grown_there, grown_nowhere, known_there}
use Rattle.sg_eval.proofs.variables.grow.Goals as goal

pub returns-in-Some-clause-grows : goal.returns-in-Some-clause-grows
returns-in-Some-clause-grows c = λ s none vars all lists.
    let v = c.concatenate_onto.new.value in
    grown_there s c.args.name.now c.args.variables.now.entries _ c.in-Some.value.now v c.args.lists.now c.concatenate_onto.result none vars all lists c.in-Some.ensures.value (c.get_mut.follows.holds v).0 c.concatenate_onto.ensures.reply c.concatenate_onto.ensures.err

pub returns-in-Some-clause-known : goal.returns-in-Some-clause-known
returns-in-Some-clause-known c = λ names all lists.
    let v = c.concatenate_onto.new.value in
    known_there names c.args.name.now c.args.variables.now.entries _ c.in-Some.value.now v c.args.lists.now c.concatenate_onto.result c.in-Some.ensures.value (c.get_mut.follows.holds v).0 c.concatenate_onto.ensures.reply c.concatenate_onto.ensures.err all lists

pub returns-in-None-clause-grows : goal.returns-in-None-clause-grows
returns-in-None-clause-grows c = λ s none vars all lists. rw c.get_mut.follows.holds-at-none (grown_nowhere s c.args.name.now c.args.variables.now.entries c.args.variables.now.entries c.args.lists.now vars c.in-None.ensures.value refl)
