use Rattle.std.proofs.Common.{◌≡◌, ◌∷◌, Option, MatchOption, Result, Vec, Global, length, drop}
use Rattle.sg_value.specs.Known.{named}
use Rattle.std.specs.Prelude.{⊤}
use Rattle.sg_eval.specs.Given.{plain_where, known_where}
use Rattle.sg_eval.proofs.GivenSteps.{after_given}
use Rattle.sg_value.specs.Plain.{AllKnown, AllKnownIn, plain, plain_of_all}
use Rattle.sg_value.specs.declared.value.Value.{Value}
use Rattle.sg_rows.specs.declared.fault.CallFault.{CallFault}
use Rattle.sg_value.specs.Data.{none}
use Rattle.sg_eval.specs.Folded.{fold_on}
use Rattle.sg_tree.specs.TreeView.{tree_of, trees_of, links_of, arguments_of}
use Rattle.sg_meaning.specs.Expressions.{eval, eval_all, eval_places, eval_links, eval_given}
use Rattle.sg_eval.specs.Machine.{state_of}
use Rattle.sg_eval.specs.Outcomes.{Evaluates, plain_in, known_in}
use Rattle.sg_eval.specs.State.{State}
use Rattle.sg_eval.proofs.Steps.{after_front}
use Rattle.sg_eval.proofs.eval.+eval.Given as goal

-- whatever comes of the expressions that are left comes of all
abbrev pub invariant-eval_all-loop-e : goal.invariant-eval_all-loop-e
invariant-eval_all-loop-e l = record {
  known : AllKnownIn (named (state_of l.machine).names) l.values.items;
  same : (state_of l.machine).parameters ≡ (state_of l.fn.machine).parameters;
  reached : (r : Result (Vec Value Global) CallFault) (s : State) → Evaluates plain_in known_in r (state_of l.machine) s (λ names. after_front (state_of l.fn.machine).parameters (trees_of (drop l.e-index l.es)) (plain_of_all names l.values.items))
      → Evaluates plain_in known_in r (state_of l.fn.machine) s (λ names. eval_all (state_of l.fn.machine).parameters (trees_of l.es));
}

-- whatever comes of the places that are left comes of all
abbrev pub invariant-item-loop-place : goal.invariant-item-loop-place
invariant-item-loop-place l = record {
  known : AllKnown (named (state_of l.machine).names) l.value;
  same : (state_of l.machine).parameters ≡ (state_of l.fn.machine).parameters;
  reached : (r : Result Value CallFault) (s : State) → Evaluates plain AllKnown r (state_of l.machine) s (λ names. eval_places (state_of l.fn.machine).parameters (plain names l.value) (trees_of (drop l.place-index l.places)))
      → Evaluates plain AllKnown r (state_of l.fn.machine) s (λ names. eval_places (state_of l.fn.machine).parameters (plain names l.fn.list) (trees_of l.places));
}

-- whatever comes of the links that are left comes of all
abbrev pub invariant-chain-loop-op : goal.invariant-chain-loop-op
invariant-chain-loop-op l = record {
  known : AllKnown (named (state_of l.machine).names) l.value;
  same : (state_of l.machine).parameters ≡ (state_of l.fn.machine).parameters;
  reached : (r : Result Value CallFault) (s : State) → Evaluates plain AllKnown r (state_of l.machine) s (λ names. eval_links (state_of l.fn.machine).parameters (plain names l.value) (links_of (drop l.op-index l.links)))
      → Evaluates plain AllKnown r (state_of l.fn.machine) s (λ names. eval_links (state_of l.fn.machine).parameters (plain names l.fn.first) (links_of l.links));
}

-- whatever comes of the arguments that are left comes of all
abbrev pub invariant-given-loop-arg : goal.invariant-given-loop-arg
invariant-given-loop-arg l = record {
  known : known_where (named (state_of l.machine).names) l.values;
  same : (state_of l.machine).parameters ≡ (state_of l.fn.machine).parameters;
  count : MatchOption l.values ⊤ (λ ws. length ws.items ≡ l.arg-index);
  reached : (r : Result (Option (Vec Value Global)) CallFault) (s : State) → Evaluates plain_where known_where r (state_of l.machine) s (λ names. after_given (state_of l.fn.machine).parameters (arguments_of (drop l.arg-index l.args)) (plain_where names l.values))
      → Evaluates plain_where known_where r (state_of l.fn.machine) s (λ names. eval_given (state_of l.fn.machine).parameters (arguments_of l.args));
}

-- whatever comes of the entries that are left comes of all
abbrev pub invariant-folded-loop-entry : goal.invariant-folded-loop-entry
invariant-folded-loop-entry l = record {
  entries : AllKnownIn (named (state_of l.machine).names) l.entries;
  known : AllKnownIn (named (state_of l.machine).names) l.gathered.items;
  same : (state_of l.machine).parameters ≡ (state_of l.fn.machine).parameters;
  reached : (r : Result Value CallFault) (s : State) → Evaluates plain AllKnown r (state_of l.machine) s (λ names. fold_on l.fold (λ e. eval ((l.parameter, e) ∷ (state_of l.fn.machine).parameters) (tree_of l.body)) (plain_of_all names l.gathered.items) (plain_of_all names (drop l.entry-index l.entries)))
      → Evaluates plain AllKnown r (state_of l.fn.machine) s (λ names. fold_on l.fold (λ e. eval ((l.parameter, e) ∷ (state_of l.fn.machine).parameters) (tree_of l.body)) none (plain_of_all names l.entries));
}
