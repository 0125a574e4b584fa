use Rattle.sg_eval.proofs.Borrowed.{parameter_there, variable_there, name_unknown}
use Rattle.sg_eval.proofs.variables.find_in.Goals as goal

pub returns-in-Some : goal.returns-in-Some
returns-in-Some c = λ s params vars known_params known_vars.
    parameter_there s c.args.name.now c.args.parameters.now c.in-Some.value params (c.in-Some.ensures.found s.names) (c.in-Some.ensures.known s.names known_params)

pub returns-in-Some-value_of : goal.returns-in-Some-value_of
returns-in-Some-value_of c = λ s params vars known_params known_vars.
    variable_there s c.args.name.now c.args.parameters.now c.args.variables.now.entries c.in-Some-value_of.value params vars (c.in_default.ensures.found s.names) (c.in-Some-value_of.ensures.found s.names) (c.in-Some-value_of.ensures.known s.names known_vars)

pub returns-in-None : goal.returns-in-None
returns-in-None c = λ s params vars known_params known_vars.
    name_unknown s c.args.name.now c.args.parameters.now c.args.variables.now.entries params vars (c.in_default.ensures.found s.names) (c.in-None.ensures.found s.names)
