-- What an assignment does whose variable's list grows in its place.
use Rattle.std.proofs.Common.{◌≡◌, ◌∷◌, ℕ, List, [], Option, Some, None, Result, Ok, Err, IsErrAnd, Vec, Global, refl, ap, ap₂, sym, ◌∙◌, subst}
use Rattle.std.specs.Map.{lookup}
use Rattle.std.specs.Str.{bytes_eq}
use Rattle.std.proofs.Math.Path.{fun_ext}
use Rattle.sg_value.specs.Data.{Items, item}
use Rattle.sg_value.specs.Known.{Known, named}
use Rattle.sg_value.specs.Plain.{Named, AllKnown, plain, plain_of_all, Things}
use Rattle.sg_value.specs.declared.value.Value.{Value}
use Rattle.sg_store.specs.Interned.{Keeps}
use Rattle.sg_rows.specs.Order.{Plain}
use Rattle.sg_rows_lists.specs.declared.lists.ListCommand.TheVariants.{Concatenation}
use Rattle.sg_rows.specs.declared.fault.CallFault.{CallFault}
use Rattle.sg_calls.specs.declared.command.Command.TheVariants.{Lists}
use Rattle.sg_rows.specs.declared.fault.Fault.TheVariants.{WrongType}
use Rattle.sg_tree.specs.Tree.{Arguments}
use Rattle.sg_eval.specs.declared.step_fault.StepFault.{StepFault}
use Rattle.sg_eval.specs.declared.step_fault.StepFault.TheVariants.{Script}
use Rattle.sg_meaning.specs.Expressions.{looked_up, eval, eval_given, ask}
use Rattle.sg_eval.specs.Given.{plain_where, known_where}
use Rattle.sg_eval.specs.Growth.{onto, joined_onto, Grows}
use Rattle.sg_meaning.specs.Process.{Process, gives, sets, ◌>>=◌}
use Rattle.sg_meaning.specs.Queries.{calls}
use Rattle.sg_eval.specs.State.{State, SameStore}
use Rattle.sg_eval.specs.Outcomes.{Gives, Evaluates}
use Rattle.sg_eval.specs.Steps.{Executed, step_fault}
use Rattle.sg_meaning.specs.Vars.{Vars}
use Rattle.sg_eval.proofs.Borrowed.{entry_only}
use Rattle.sg_meaning.proofs.Sequels.{assoc}
use Rattle.sg_eval.proofs.Evaluating.{evaluates_later, keeps_then, plain_later, plain_of_all_later}
use Rattle.sg_eval.proofs.Executing.{at_top, executed_as, executed_exit, executed_gives, executed_refuses, executed_sets, executed_value}
use Rattle.sg_eval.proofs.Growing.{with_others, onto_step}

-- a variable gets a value, and that is all
abbrev pub setting : List ℕ → Plain → Process (Unit {0})
setting x d = sets x d (gives tt)

-- the assignment, argument by argument
abbrev pub assigning : List ℕ → Arguments → Plain → Process (Unit {0})
assigning x others d = eval_given [] others >>= (λ o. with_others d o >>= setting x)

onto_done : (x : List ℕ) (others : Arguments) → looked_up None x >>= assigning x others ≡ eval [] (onto x others) >>= setting x
onto_done x others =
    ap (λ k. looked_up None x >>= k) (fun_ext (λ d. sym (assoc (eval_given [] others) (with_others d) (setting x))))
    ∙ (sym (assoc (looked_up None x) (λ d. eval_given [] others >>= with_others d) (setting x)) ∙ ap (λ p. p >>= setting x) (onto_step x others))

-- a refusal after which the variables are as they were
refused_still : (e : CallFault) (s s1 s2 : State) (p : Named → Process Plain) → SameStore s1 s2 → s2.variables ≡ s1.variables → Evaluates plain AllKnown (Err e) s s1 p → Evaluates plain AllKnown (Err e) s s2 p
refused_still e s s1 s2 p same vars h = record {
  keeps = subst (Keeps s.names) (sym same.names) h.keeps;
  variables = vars ∙ h.variables;
  budget = same.budget ∙ h.budget;
  parameters = tt;
  is_known = tt;
  gives = λ final later. subst (Gives (plain (named final)) (Err e) s.budget (p (named final)) s.variables s.attributes) (sym same.attributes) (h.gives final (subst (λ a. Keeps a final) same.names later));
}

module _ (s : State) (x : List ℕ) (others : Arguments) (o : Option (List ℕ)) (none : s.parameters ≡ []) where
  -- the name has no value
  pub nothing_there : (r : Result (Unit {0}) StepFault) (e : CallFault) → IsErrAnd r (λ y. y ≡ step_fault e) → Evaluates plain AllKnown (Err e) s s (λ names. looked_up (lookup (bytes_eq x) s.parameters) x)
      → Executed r s s o o (eval [] (onto x others) >>= setting x)
  nothing_there r e failed h =
      executed_as (looked_up None x >>= assigning x others) (eval [] (onto x others) >>= setting x) r s s o o (onto_done x others)
      (executed_exit plain AllKnown (looked_up None x) (assigning x others) r e s s o failed (at_top plain AllKnown (Err e) s s (λ ps. looked_up (lookup (bytes_eq x) ps) x) none h))

  module _ (v : Value) (found : Evaluates plain AllKnown (Ok v) s s (λ names. looked_up (lookup (bytes_eq x) s.parameters) x)) where
    -- the name has a value, and what comes of it
    after_found : (r : Result (Unit {0}) StepFault) (s1 : State) → Executed r s s1 o o (assigning x others (plain (named s.names) v)) → Executed r s s1 o o (eval [] (onto x others) >>= setting x)
    after_found r s1 h =
        executed_as (looked_up None x >>= assigning x others) (eval [] (onto x others) >>= setting x) r s s1 o o (onto_done x others)
        (executed_value plain AllKnown (looked_up None x) (assigning x others) v r s s s1 o o (at_top plain AllKnown (Ok v) s s (λ ps. looked_up (lookup (bytes_eq x) ps) x) none found) h)

    -- another argument is refused
    pub others_refused : (r : Result (Unit {0}) StepFault) (e : CallFault) (s1 : State) → IsErrAnd r (λ y. y ≡ step_fault e) → Evaluates plain_where known_where (Err e) s s1 (λ names. eval_given s.parameters others)
        → Executed r s s1 o o (eval [] (onto x others) >>= setting x)
    others_refused r e s1 failed h =
        after_found r s1 (executed_exit plain_where known_where (eval_given [] others) (λ w. with_others (plain (named s.names) v) w >>= setting x) r e s s1 o failed (at_top plain_where known_where (Err e) s s1 (λ ps. eval_given ps others) none h))

    -- another argument is an arrow
    pub others_with_arrow : (s1 : State) → Evaluates plain_where known_where (Ok None) s s1 (λ names. eval_given s.parameters others) → Executed (Err (Script WrongType)) s s1 o o (eval [] (onto x others) >>= setting x)
    others_with_arrow s1 h =
        after_found (Err (Script WrongType)) s1
        (executed_value plain_where known_where (eval_given [] others) (λ w. with_others (plain (named s.names) v) w >>= setting x) None (Err (Script WrongType)) s s1 s1 o o (at_top plain_where known_where (Ok None) s s1 (λ ps. eval_given ps others) none h)
        (executed_refuses WrongType s1 o))

    module _ (s1 s2 : State) (lists : Vec Value Global) (given : Evaluates plain_where known_where (Ok (Some lists)) s s1 (λ names. eval_given s.parameters others)) (same : SameStore s1 s2) where
      -- what the command is asked for, over the values that were found
      abbrev asked : Process Plain
      asked = ask (calls (Lists Concatenation) (item (plain (named s.names) v) (plain_of_all (named s1.names) lists.items)))

      after_given : (r : Result (Unit {0}) StepFault) → Executed r s1 s2 o o (asked >>= setting x) → Executed r s s2 o o (eval [] (onto x others) >>= setting x)
      after_given r h =
          after_found r s2
          (executed_value plain_where known_where (eval_given [] others) (λ w. with_others (plain (named s.names) v) w >>= setting x) (Some lists) r s s1 s2 o o (at_top plain_where known_where (Ok (Some lists)) s s1 (λ ps. eval_given ps others) none given) h)

      -- the list of the variable is that which was found first
      of_found : (r : Result Value CallFault) → Evaluates plain AllKnown r s1 s1 (λ names. joined_onto x (plain_of_all names lists.items)) → Evaluates plain AllKnown r s1 s1 (λ names. asked)
      of_found r h =
          let outside = given.parameters ∙ none in
          let still = subst (λ ps. Evaluates plain AllKnown r s1 s1 (λ names. looked_up (lookup (bytes_eq x) ps) x >>= (λ d. ask (calls (Lists Concatenation) (item d (plain_of_all names lists.items)))))) (sym outside) h in
          evaluates_later plain AllKnown r s1 s1 (λ names. ask (calls (Lists Concatenation) (item (plain names v) (plain_of_all names lists.items)))) (λ names. asked)
          (λ final later. ap₂ (λ (d : Plain) (ds : Items Things). ask (calls (Lists Concatenation) (item d ds))) (plain_later s.names final v (keeps_then s.names s1.names final given.keeps later) found.is_known) (plain_of_all_later s1.names final lists.items later given.is_known))
          (entry_only s s1 x v r given.parameters given.variables given.budget given.keeps (λ names d. ask (calls (Lists Concatenation) (item d (plain_of_all names lists.items)))) found still)

      -- the lists are refused
      pub growth_refused : (r : Result (Unit {0}) StepFault) (e : CallFault) → IsErrAnd r (λ y. y ≡ step_fault e) → Grows (Err e) s1 s2.variables x (λ names. joined_onto x (plain_of_all names lists.items))
          → Executed r s s2 o o (eval [] (onto x others) >>= setting x)
      growth_refused r e failed h = after_given r (executed_exit plain AllKnown asked (setting x) r e s1 s2 o failed (refused_still e s1 s1 s2 (λ names. asked) same h.1 (of_found (Err e) h.0)))

      -- the list grew
      pub growth_done : s2.parameters ≡ s1.parameters → Grows (Ok tt) s1 s2.variables x (λ names. joined_onto x (plain_of_all names lists.items)) → Executed (Ok tt) s s2 o o (eval [] (onto x others) >>= setting x)
      growth_done params h =
          after_given (Ok tt)
          (executed_value plain AllKnown asked (setting x) h.0 (Ok tt) s1 s1 s2 o o (of_found (Ok h.0) h.1)
          (executed_sets x (plain (named s1.names) h.0) (gives tt) (Ok tt) s1 s2 s2 o o same h.2 (executed_gives tt s2 o (params ∙ (given.parameters ∙ none)))))
