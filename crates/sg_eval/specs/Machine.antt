-- A machine as contracts see it.
use Rattle.sg_eval.specs.State.{State, vars_of, values_of}
use Rattle.sg_eval.specs.declared.machine.Machine.{Machine}

abbrev pub state_of : Machine → State
state_of m = record {
  names = m.store.ids;
  attributes = m.store.attributes;
  variables = values_of m.store.ids m.variables.entries;
  parameters = vars_of m.store.ids m.parameters.items;
  budget = m.budget;
}
