-- Arguments, one after the other.
use Rattle.std.proofs.Common.{◌≡◌, ◌<◌, ◌+◌, ℕ, suc, List, [], ◌∷◌, length, get_or, drop, Bool, true, false, Option, Some, None, MatchOption, length-append, Result, Ok, Err, IsErrAnd, Vec, Global, refl, ap, sym, ◌∙◌, subst}
use Rattle.sg_value.specs.Known.{Known, named}
use Rattle.std.proofs.Math.Path.{fun_ext}
use Rattle.std.proofs.lemmas.List.{drop_more}
use Rattle.std.specs.Option.{option_map}
use Rattle.sg_value.specs.Data.{Items, none, item, join}
use Rattle.sg_value.specs.Plain.{Named, plain_of_all, Things}
use Rattle.sg_value.specs.declared.value.Value.{Value}
use Rattle.sg_rows.specs.Order.{Plain}
use Rattle.std.specs.Prelude.{if◌then◌else◌, ⊤}
use Rattle.sg_store.specs.Interned.{Keeps}
use Rattle.sg_calls.specs.Commands.{takes, word_named}
use Rattle.sg_rows.specs.declared.fault.Fault.{Fault}
use Rattle.sg_rows.specs.declared.fault.Fault.TheVariants.{WrongCount}
use Rattle.sg_rows.specs.declared.fault.CallFault.{CallFault}
use Rattle.sg_rows.specs.declared.fault.CallFault.TheVariants.{Script}
use Rattle.sg_meaning.specs.Queries.{calls}
use Rattle.sg_tree.specs.Tree.{call, Argument, Arguments, argument, no_arguments, plain as plain_argument, arrow}
use Rattle.sg_tree.specs.TreeView.{argument_of, arguments_of}
use Rattle.sg_tree.specs.declared.expr.Arg.{Arg}
use Rattle.sg_calls.specs.declared.command.Command.{Command}
use Rattle.sg_calls.specs.declared.command.Word.{Word}
use Rattle.sg_meaning.specs.Expressions.{eval, eval_given, eval_folding, answered, called, argument_count, plain_alone, ask}
use Rattle.sg_eval.specs.Given.{plain_if, known_if, plain_where, known_where, eval_argument, IsWith}
use Rattle.sg_eval.specs.Outcomes.{Evaluates}
use Rattle.sg_meaning.specs.Process.{Process, gives, refuses, ◌>>=◌}
use Rattle.sg_eval.specs.State.{State}
use Rattle.sg_meaning.specs.Vars.{Vars}
use Rattle.sg_meaning.proofs.Sequels.{assoc, right_unit}
use Rattle.sg_eval.proofs.Over.{over_refuses}
use Rattle.sg_eval.proofs.Evaluating.{evaluates_then, evaluates_exit, evaluates_as, all_known_later, keeps_all}
use Rattle.sg_value.proofs.Joins.{join-none, join-one}
use Rattle.sg_eval.proofs.Steps.{all_known_more, plain_of_all-more}

-- the arguments from one on
pub arguments_of-drop : (gs : List Arg) (i : ℕ) (g : Arg) → i < length gs → g ≡ get_or gs i g → arguments_of (drop i gs) ≡ argument (argument_of g) (arguments_of (drop (i + 1) gs))
arguments_of-drop gs i g within is = ap arguments_of (drop_more gs i g within) ∙ ap (λ x. argument (argument_of x) (arguments_of (drop (i + 1) gs))) (sym is)

pub count-arguments : (gs : List Arg) → argument_count (arguments_of gs) ≡ length gs
count-arguments [] = refl
count-arguments (g ∷ gs) = ap suc (count-arguments gs)

abbrev pub joined_where : Option (Items Things) → Option (Items Things) → Option (Items Things)
joined_where None ds = None
joined_where (Some es) ds = option_map (join es) ds

abbrev pub with_where : Option (Items Things) → Option Plain → Option (Items Things)
with_where None d = None
with_where (Some es) None = None
with_where (Some es) (Some d) = Some (join es (item d none))

-- the values so far, before those of the arguments that are left
abbrev pub after_given : Vars → Arguments → Option (Items Things) → Process (Option (Items Things))
after_given ps args o = eval_given ps args >>= (λ ds. gives (joined_where o ds))

join-with : (o : Option (Items Things)) (d : Plain) (ds : Option (Items Things)) → joined_where (with_where o (Some d)) ds ≡ joined_where o (option_map (item d) ds)
join-with None d ds = refl
join-with (Some es) d None = refl
join-with (Some es) d (Some ds) = ap Some (join-one es d ds)

join-without : (o ds : Option (Items Things)) → joined_where (with_where o None) ds ≡ joined_where o None
join-without None ds = refl
join-without (Some es) ds = refl

pub given_step : (ps : Vars) (a : Argument) (others : Arguments) (o : Option (Items Things)) → eval_argument ps a >>= (λ d. after_given ps others (with_where o d)) ≡ after_given ps (argument a others) o
given_step ps (plain_argument t) others o =
    assoc (eval ps t) (λ d. gives (Some d)) (λ d. after_given ps others (with_where o d))
    ∙ (ap (λ k. eval ps t >>= k) (fun_ext (λ d. ap (λ k. eval_given ps others >>= k) (fun_ext (λ ds. ap gives (join-with o d ds))) ∙ sym (assoc (eval_given ps others) (λ ds. gives (option_map (item d) ds)) (λ ds. gives (joined_where o ds)))))
    ∙ sym (assoc (eval ps t) (λ d. eval_given ps others >>= (λ ds. gives (option_map (item d) ds))) (λ ds. gives (joined_where o ds))))
given_step ps (arrow x t) others o =
    ap (λ k. eval_given ps others >>= k) (fun_ext (λ ds. ap gives (join-without o ds))) ∙ sym (assoc (eval_given ps others) (λ ds. gives None) (λ ds. gives (joined_where o ds)))

pub plain_with : (names : Named) (o : Option (Vec Value Global)) (f : Option Value) (p : Option (Vec Value Global)) → IsWith o f p → plain_where names p ≡ with_where (plain_where names o) (plain_if names f)
plain_with names None f p is = ap (plain_where names) is
plain_with names (Some vs) None p is = ap (plain_where names) is
plain_with names (Some vs) (Some v) None is = absurd is
plain_with names (Some vs) (Some v) (Some ws) is = ap Some (ap (plain_of_all names) is ∙ plain_of_all-more names vs.items v)

right_unit_where : (p : Process (Option (Items Things))) → p >>= (λ ds. gives (joined_where (Some none) ds)) ≡ p
right_unit_where p = ap (λ k. p >>= k) (fun_ext (λ ds. ap gives (join-nothing ds))) ∙ right_unit p
  where
    join-nothing : (ds : Option (Items Things)) → joined_where (Some none) ds ≡ ds
    join-nothing None = refl
    join-nothing (Some ds) = refl

-- no value is before those of the arguments
pub given_none : (ps : Vars) (args : Arguments) (names : Named) (vs : Vec Value Global) → vs.items ≡ [] → after_given ps args (plain_where names (Some vs)) ≡ eval_given ps args
given_none ps args names vs is = ap (λ ws. after_given ps args (Some (plain_of_all names ws))) is ∙ right_unit_where (eval_given ps args)

-- no argument is left
pub given_over : (ps : Vars) (o : Option (Items Things)) → gives o ≡ after_given ps no_arguments o
given_over ps None = refl
given_over ps (Some es) = ap (λ ds. gives (Some ds)) (sym (join-none es))

-- one value more is known
pub known_with : (names : Named) (o : Option (Vec Value Global)) (f : Option Value) (p : Option (Vec Value Global)) → IsWith o f p → known_where names o → known_if names f → known_where names p
known_with names None f p is all is_known = subst (known_where names) (sym is) tt
known_with names (Some vs) None p is all is_known = subst (known_where names) (sym is) tt
known_with names (Some vs) (Some v) None is all is_known = tt
known_with names (Some vs) (Some v) (Some ws) is all is_known = all_known_more names vs.items ws.items v is all is_known

-- values that may be missing stay known
pub known_where_later : (a b : Known) (o : Option (Vec Value Global)) → Keeps a b → known_where (named a) o → known_where (named b) o
known_where_later a b None kept all = tt
known_where_later a b (Some vs) kept all = all_known_later a b vs.items kept all

-- one value more is counted
pub count_with : (o : Option (Vec Value Global)) (f : Option Value) (p : Option (Vec Value Global)) (n : ℕ) → IsWith o f p → MatchOption o ⊤ (λ ws. length ws.items ≡ n) → MatchOption p ⊤ (λ ws. length ws.items ≡ n + 1)
count_with None f p n is h = subst (λ q. MatchOption q ⊤ (λ ws. length ws.items ≡ n + 1)) (sym is) tt
count_with (Some vs) None p n is h = subst (λ q. MatchOption q ⊤ (λ ws. length ws.items ≡ n + 1)) (sym is) tt
count_with (Some vs) (Some v) None n is h = tt
count_with (Some vs) (Some v) (Some ws) n is h = ap length is ∙ (length-append vs.items (v ∷ []) ∙ ap (λ k. k + 1) h)

module _ (ps : Vars) (s s1 : State) (a : Argument) (others : Arguments) (o : Option (Vec Value Global)) (same : s.parameters ≡ ps) where
  -- the value of one argument, and then the others
  pub given_then : (f : Option Value) (p : Option (Vec Value Global)) (r : Result (Option (Vec Value Global)) CallFault) (s2 : State) → IsWith o f p → Evaluates plain_if known_if (Ok f) s s1 (λ names. eval_argument s.parameters a)
      → Evaluates plain_where known_where r s1 s2 (λ names. after_given ps others (plain_where names p)) → Evaluates plain_where known_where r s s2 (λ names. after_given ps (argument a others) (plain_where names o))
  given_then f p r s2 is h g =
      evaluates_as plain_where known_where r s s2 (λ names. eval_argument ps a >>= (λ d. after_given ps others (with_where (plain_where names o) d))) (λ names. after_given ps (argument a others) (plain_where names o))
      (λ names. given_step ps a others (plain_where names o))
      (evaluates_then plain_if known_if plain_where known_where f r s s1 s2 (λ names. eval_argument ps a) (λ names d. after_given ps others (with_where (plain_where names o) d))
      (subst (λ qs. Evaluates plain_if known_if (Ok f) s s1 (λ names. eval_argument qs a)) same h)
      (evaluates_as plain_where known_where r s1 s2 (λ names. after_given ps others (plain_where names p)) (λ names. after_given ps others (with_where (plain_where names o) (plain_if names f)))
      (λ names. ap (after_given ps others) (plain_with names o f p is)) g))

  -- an argument that is refused
  pub given_exit : (r : Result (Option (Vec Value Global)) CallFault) (e : CallFault) → IsErrAnd r (λ y. y ≡ e) → Evaluates plain_if known_if (Err e) s s1 (λ names. eval_argument s.parameters a)
      → Evaluates plain_where known_where r s s1 (λ names. after_given ps (argument a others) (plain_where names o))
  given_exit r e failed h =
      evaluates_as plain_where known_where r s s1 (λ names. eval_argument ps a >>= (λ d. after_given ps others (with_where (plain_where names o) d))) (λ names. after_given ps (argument a others) (plain_where names o))
      (λ names. given_step ps a others (plain_where names o))
      (evaluates_exit plain_if known_if plain_where known_where r e s s1 (λ names. eval_argument ps a) (λ names d. after_given ps others (with_where (plain_where names o) d)) failed
      (subst (λ qs. Evaluates plain_if known_if (Err e) s s1 (λ names. eval_argument qs a)) same h))

-- a call is what is said of the word that its name is
pub call_word : (env : Vars) (name : List ℕ) (gs : List Arg) (w : Option Word) → w ≡ word_named name
    → called w (argument_count (arguments_of gs)) (eval_given env (arguments_of gs)) (eval_folding env (arguments_of gs)) ≡ eval env (call name (arguments_of gs))
call_word env name gs w is = ap (λ o. called o (argument_count (arguments_of gs)) (eval_given env (arguments_of gs)) (eval_folding env (arguments_of gs))) is

-- what a command of values gives, by whether it takes so many arguments
abbrev answered_if : Bool → Command → Process (Option (Items Things)) → Process Plain
answered_if b c given = if b then given >>= (λ values. plain_alone values (λ ds. ask (calls c ds))) else refuses WrongCount

-- a command that takes so many arguments goes on
pub count_right : (env : Vars) (c : Command) (gs : List Arg) → takes c (length gs) ≡ true
    → eval_given env (arguments_of gs) >>= (λ values. plain_alone values (λ ds. ask (calls c ds))) ≡ answered c (argument_count (arguments_of gs)) (eval_given env (arguments_of gs))
count_right env c gs right = ap (λ b. answered_if b c (eval_given env (arguments_of gs))) (sym (ap (takes c) (count-arguments gs) ∙ right))

-- one that does not is refused
pub count_wrong : (env : Vars) (c : Command) (gs : List Arg) → takes c (length gs) ≡ false → refuses WrongCount ≡ answered c (argument_count (arguments_of gs)) (eval_given env (arguments_of gs))
count_wrong env c gs wrong = ap (λ b. answered_if b c (eval_given env (arguments_of gs))) (sym (ap (takes c) (count-arguments gs) ∙ wrong))

-- refused at once
pub evaluates_refuses : {Y B : Type 0} (view : Named → Y → B) (known : Named → Y → Type 0) (e : Fault) (s : State) → Evaluates view known (Err (Script e)) s s (λ names. refuses e)
evaluates_refuses {B} view known e s = record { keeps = keeps_all s.names; variables = refl; budget = refl; parameters = tt; is_known = tt; gives = λ final later. over_refuses {A = B} s.budget e s.variables s.attributes }
