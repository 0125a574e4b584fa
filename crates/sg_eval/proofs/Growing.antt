-- Variables' lists that grow in their places.
use Rattle.std.proofs.Common.{◌≡◌, true, ◌∷◌, ℕ, suc, List, [], length, Bor, Option, Some, None, Result, Ok, Err, OnErr, inl, refl, ap, sym, ◌∙◌, subst, arith}
use Rattle.std.specs.Prelude.{codes, IfSome, if◌then◌else◌}
use Rattle.std.proofs.lemmas.Bool.{le-leb}
use Rattle.std.specs.Map.{lookup, set_value}
use Rattle.std.specs.Option.{option_map}
use Rattle.std.specs.Str.{bytes_eq}
use Rattle.std.proofs.Math.Path.{fun_ext}
use Rattle.sg_value.specs.Data.{Items, item, list}
use Rattle.sg_value.specs.Known.{Known, named}
use Rattle.sg_value.specs.Plain.{Named, AllKnown, AllKnownIn, contents, plain, plain_of_all, Things}
use Rattle.sg_value.specs.declared.value.Value.{Value}
use Rattle.sg_store.specs.Interned.{Keeps}
use Rattle.sg_rows.specs.Order.{Plain, fits, AreAsked}
use Rattle.sg_rows.specs.Replies.{Replies}
use Rattle.sg_rows.specs.declared.fault.CallFault.{CallFault}
use Rattle.sg_rows.specs.declared.fault.CallFault.TheVariants.{Script}
use Rattle.sg_rows.specs.declared.fault.Fault.TheVariants.{UnknownName, WrongCount}
use Rattle.sg_rows.specs.Kinds.{given}
use Rattle.sg_rows.specs.Values.{answers}
use Rattle.sg_rows.proofs.AskLemmas.{admitted}
use Rattle.sg_rows.proofs.Replying.{answers_pass}
use Rattle.sg_rows_lists.specs.Concatenations.{concatenated, concatenation_of, left_in}
use Rattle.sg_rows_lists.specs.Lists.{named as list_named}
use Rattle.sg_rows_lists.specs.declared.lists.ListCommand.TheVariants.{Concatenation}
use Rattle.sg_calls.specs.Commands.{takes, word_named}
use Rattle.sg_calls.specs.declared.command.Command.TheVariants.{Lists}
use Rattle.sg_calls.specs.declared.command.Word.TheVariants as word
use Rattle.sg_tree.specs.Tree.{Tree, Arguments, argument, call, variable, plain as plain_argument}
use Rattle.sg_tree.specs.TreeView.{arguments_of}
use Rattle.sg_tree.specs.declared.expr.Arg.{Arg}
use Rattle.sg_meaning.specs.Expressions.{looked_up, known, eval, eval_given, plain_alone, argument_count, called, eval_folding, ask}
use Rattle.sg_eval.specs.Given.{plain_where, known_where}
use Rattle.sg_eval.specs.Growth.{onto, joined_onto, Grows}
use Rattle.sg_eval.specs.Outcomes.{RunsOver, Evaluates}
use Rattle.sg_meaning.specs.Process.{Process, gives, refuses, ◌>>=◌}
use Rattle.sg_meaning.specs.Queries.{calls}
use Rattle.sg_eval.specs.State.{State, values_of, AreKnownIn}
use Rattle.sg_meaning.specs.Vars.{Vars, with_value}
use Rattle.sg_eval.proofs.Borrowed.{entry_only}
use Rattle.sg_meaning.proofs.Sequels.{assoc}
use Rattle.sg_eval.proofs.Over.{over_refuses}
use Rattle.sg_eval.proofs.Evaluating.{evaluates_as, evaluates_then, evaluates_told, keeps_all}
use Rattle.sg_eval.proofs.Later.{row_answered, variable_found, copy_known}
use Rattle.sg_eval.proofs.Named.{Pairs, is_named, values-set, values-kept, known-set, lookup-some, lookup-none, lookup-known}

-- Concatenation takes one argument and more
concatenation_right : (n : ℕ) → takes (Lists Concatenation) (suc n) ≡ true
concatenation_right n = le-leb 1 (suc n) (omega arith)

concatenation_word : word_named (codes "Concatenation") ≡ Some (word.Command (Lists Concatenation))
unfolding word_named list_named
concatenation_word = refl

-- a call whose arguments are a name and others
pub onto_same : (t : Tree) (x : List ℕ) (args : Arguments) (o : Option (Bor (List Arg))) → t ≡ call (codes "Concatenation") args → IfSome o (λ others. args ≡ argument (plain_argument (variable x)) (arguments_of others.now))
    → IfSome o (λ others. t ≡ onto x (arguments_of others.now))
onto_same t x args None is h = tt
onto_same t x args (Some others) is h = is ∙ ap (call (codes "Concatenation")) h

-- a list and others as arguments of that command
abbrev pub with_others : Plain → Option (Items Things) → Process Plain
with_others d o = plain_alone (option_map (item d) o) (λ ds. ask (calls (Lists Concatenation) ds))

-- the call, argument by argument
pub onto_step : (x : List ℕ) (others : Arguments) → looked_up None x >>= (λ d. eval_given [] others >>= with_others d) ≡ eval [] (onto x others)
onto_step x others =
    let args = argument (plain_argument (variable x)) others in
    let after = λ (o : Option (Items Things)). plain_alone o (λ ds. ask (calls (Lists Concatenation) ds)) in
    let given = eval_given [] others in
    ap (λ k. looked_up None x >>= k) (fun_ext (λ d. sym (assoc given (λ o. gives (option_map (item d) o)) after)))
    ∙ (sym (assoc (looked_up None x) (λ d. given >>= (λ o. gives (option_map (item d) o))) after)
    ∙ (ap (λ b. if b then (looked_up None x >>= (λ d. given >>= (λ o. gives (option_map (item d) o)))) >>= after else refuses WrongCount) (sym (concatenation_right (argument_count others)))
    ∙ ap (λ w. called w (argument_count args) (eval_given [] args) (eval_folding [] args)) (sym concatenation_word)))

-- that command asks for nothing
concatenation_asks : (args : Items Things) → AreAsked (concatenation_of args) []
concatenation_asks args = by_lists (concatenated args)
  where
    by_lists : (o : Option (Items Things)) → AreAsked (given o (λ ds. fits [] (answers (λ d. d ≡ list ds)))) []
    by_lists None = refl
    by_lists (Some ds) = inl (admitted (answers (λ d. d ≡ list ds)) (answers_pass (λ d. d ≡ list ds)), refl)

-- what a list answers in its place is what the command answers
onto_reply : (s : State) (x : List ℕ) (u v : Value) (lists : List Value) (r : Result (Unit {0}) CallFault) → s.parameters ≡ [] → lookup (bytes_eq x) s.variables ≡ Some (plain (named s.names) u) → AllKnownIn (named s.names) (u ∷ lists)
    → Replies (left_in v r) s.names (concatenation_of (plain_of_all (named s.names) (u ∷ lists))) → Evaluates plain AllKnown (left_in v r) s s (λ names. joined_onto x (plain_of_all names lists))
onto_reply s x u v lists r none found is_known reply =
    let there = subst (λ ps. Evaluates plain AllKnown (Ok u) s s (λ names. looked_up (lookup (bytes_eq x) ps) x)) none (variable_found s x u u (ap (lookup (bytes_eq x)) none) found is_known.0 refl) in
    evaluates_then plain AllKnown plain AllKnown u (left_in v r) s s s (λ names. looked_up None x) (λ names d. ask (calls (Lists Concatenation) (item d (plain_of_all names lists)))) there
    (evaluates_told (left_in v r) s (concatenation_of (plain_of_all (named s.names) (u ∷ lists))) (λ names. calls (Lists Concatenation) (plain_of_all names (u ∷ lists)))
    (λ final later t g. row_answered s.budget s.names final (u ∷ lists) (Lists Concatenation) t [] later is_known g (concatenation_asks (plain_of_all (named s.names) (u ∷ lists)))) reply)

-- a list grew in the place of its variable
pub grown_there : (s : State) (x : List ℕ) (es fs : Pairs) (u v : Value) (lists : List Value) (r : Result (Unit {0}) CallFault) → s.parameters ≡ [] → s.variables ≡ values_of s.names es → AreKnownIn s.names es → AllKnownIn (named s.names) lists
    → Some u ≡ lookup (is_named x) es → fs ≡ set_value (is_named x) es v → ((store : Known) → AllKnownIn (named store) (u ∷ lists) → Replies (left_in v r) store (concatenation_of (plain_of_all (named store) (u ∷ lists)))) → OnErr r (contents v ≡ contents u)
    → Grows r s (values_of s.names fs) x (λ names. joined_onto x (plain_of_all names lists))
grown_there s x es fs u v lists (Ok done) none vars all known_lists found is reply same =
    let known : AllKnownIn (named s.names) (u ∷ lists) = (lookup-known s.names x es u found all, known_lists) in
    let there = ap (lookup (bytes_eq x)) vars ∙ lookup-some s.names x es u found in (
      v,
      onto_reply s x u v lists (Ok done) none there known (reply s.names known),
      ap (values_of s.names) is ∙ (values-set s.names x es u v found ∙ ap (with_value x (plain (named s.names) v)) (sym vars)),
    )
grown_there s x es fs u v lists (Err e) none vars all known_lists found is reply same =
    let known : AllKnownIn (named s.names) (u ∷ lists) = (lookup-known s.names x es u found all, known_lists) in
    let there = ap (lookup (bytes_eq x)) vars ∙ lookup-some s.names x es u found in
    (onto_reply s x u v lists (Err e) none there known (reply s.names known), ap (values_of s.names) is ∙ (values-kept s.names x es u v found same ∙ sym vars))

-- there is no such variable
pub grown_nowhere : (s : State) (x : List ℕ) (es fs : Pairs) (lists : List Value) → s.variables ≡ values_of s.names es → None ≡ lookup (is_named x) es → fs ≡ es
    → Grows (Err (Script UnknownName)) s (values_of s.names fs) x (λ names. joined_onto x (plain_of_all names lists))
grown_nowhere s x es fs lists vars missing is = (
  record {
    keeps = keeps_all s.names;
    variables = refl;
    budget = refl;
    parameters = tt;
    is_known = tt;
    gives = λ final later.
        subst (λ o. RunsOver s.budget (known o >>= (λ d. ask (calls (Lists Concatenation) (item d (plain_of_all (named final) lists))))) s.variables (Err UnknownName) s.variables [] s.attributes s.attributes)
        (sym (ap (lookup (bytes_eq x)) vars ∙ lookup-none s.names x es missing)) (over_refuses {A = Plain} s.budget UnknownName s.variables s.attributes);
  },
  ap (values_of s.names) is ∙ sym vars,
)

-- the values are known as before
pub known_there : (names : Known) (x : List ℕ) (es fs : Pairs) (u v : Value) (lists : List Value) (r : Result (Unit {0}) CallFault) → Some u ≡ lookup (is_named x) es → fs ≡ set_value (is_named x) es v
    → ((store : Known) → AllKnownIn (named store) (u ∷ lists) → Replies (left_in v r) store (concatenation_of (plain_of_all (named store) (u ∷ lists)))) → OnErr r (contents v ≡ contents u) → AreKnownIn names es → AllKnownIn (named names) lists → AreKnownIn names fs
known_there names x es fs u v lists (Ok done) found is reply same all known_lists =
    subst (AreKnownIn names) (sym is) (known-set names x es v all (reply names (lookup-known names x es u found all, known_lists)).1)
known_there names x es fs u v lists (Err e) found is reply same all known_lists =
    subst (AreKnownIn names) (sym is) (known-set names x es v all (copy_known (named names) u v same (lookup-known names x es u found all)))
