-- The arguments of a command with an arrow, and the entries that it goes over.
use Rattle.std.proofs.Common.{◌≡◌, ◌<◌, ◌+◌, ℕ, zero, suc, List, [], ◌∷◌, length, get_or, drop, Bool, true, false, Option, Some, None, Result, Ok, Err, IsErrAnd, refl, ap, sym, ◌∙◌, subst, arith}
use Rattle.std.specs.Prelude.{if◌then◌else◌}
use Rattle.std.proofs.lemmas.List.{drop_more}
use Rattle.sg_value.specs.Data.{Items, item, join}
use Rattle.sg_value.specs.Plain.{Named, AllKnown, AllKnownIn, plain, plain_of_all, Things}
use Rattle.sg_value.specs.declared.value.Value.{Value}
use Rattle.sg_rows.specs.Kinds.{as_list}
use Rattle.sg_rows.specs.Order.{Plain}
use Rattle.sg_rows.specs.declared.fault.CallFault.{CallFault}
use Rattle.sg_rows.specs.declared.fault.Fault.TheVariants.{WrongCount}
use Rattle.sg_tree.specs.Tree.{Tree, Argument, Arguments, no_arguments, argument, plain as plain_argument, arrow}
use Rattle.sg_tree.specs.TreeView.{argument_of, arguments_of}
use Rattle.sg_tree.specs.declared.expr.Arg.{Arg}
use Rattle.sg_calls.specs.declared.command.Folding.{Folding}
use Rattle.sg_meaning.specs.Expressions.{eval, eval_folding, listed}
use Rattle.sg_eval.specs.Folded.{goes_on, gathered_at, finished, fold_on, listed_if, fold_rest}
use Rattle.sg_eval.specs.Given.{eval_argument}
use Rattle.sg_eval.specs.Outcomes.{Evaluates}
use Rattle.sg_meaning.specs.Process.{Process, gives, refuses, ◌>>=◌}
use Rattle.sg_eval.specs.State.{State}
use Rattle.sg_eval.specs.Truths.{itself, no_semigroup}
use Rattle.sg_meaning.specs.Vars.{Vars}
use Rattle.sg_meaning.proofs.Sequels.{assoc}
use Rattle.sg_eval.proofs.Evaluating.{evaluates_then, evaluates_exit, evaluates_as}

-- two arguments
pub fold_two : (env : Vars) (fold : Folding) (a b : Argument) → eval_argument env a >>= fold_rest env fold b ≡ eval_folding env (argument a (argument b no_arguments)) fold
fold_two env fold (plain_argument t) (plain_argument u) = assoc (eval env t) (λ d. gives (Some d)) (fold_rest env fold (plain_argument u))
fold_two env fold (plain_argument t) (arrow x u) = assoc (eval env t) (λ d. gives (Some d)) (fold_rest env fold (arrow x u))
fold_two env fold (arrow x t) (plain_argument u) = refl
fold_two env fold (arrow x t) (arrow y u) = refl

pub two_arguments : (gs : List Arg) (a b : Arg) → length gs ≡ 2 → a ≡ get_or gs 0 a → b ≡ get_or gs 1 b → arguments_of gs ≡ argument (argument_of a) (argument (argument_of b) no_arguments)
two_arguments [] a b n h k = absurd (cc)
two_arguments (g ∷ []) a b n h k = absurd (omega (arith, n))
two_arguments (g ∷ i ∷ []) a b n h k = ap (λ x. argument (argument_of x) (argument (argument_of i) no_arguments)) (sym h) ∙ ap (λ x. argument (argument_of a) (argument (argument_of x) no_arguments)) (sym k)
two_arguments (g ∷ i ∷ j ∷ gs) a b n h k = absurd (omega (arith, n))

-- other than two arguments
pub wrong_count : (env : Vars) (fold : Folding) (gs : List Arg) → (length gs ≡ 2 → ⊥) → refuses WrongCount ≡ eval_folding env (arguments_of gs) fold
wrong_count env fold [] n = refl
wrong_count env fold (a ∷ []) n = refl
wrong_count env fold (a ∷ b ∷ []) n = absurd (n refl)
wrong_count env fold (a ∷ b ∷ c ∷ gs) n = too_many (argument_of a) (argument_of b) (argument_of c) (arguments_of gs)
  where
    too_many : (a b c : Argument) (others : Arguments) → refuses WrongCount ≡ eval_folding env (argument a (argument b (argument c others))) fold
    too_many (plain_argument t) (plain_argument u) c others = refl
    too_many (plain_argument t) (arrow x u) c others = refl
    too_many (arrow x t) (plain_argument u) c others = refl
    too_many (arrow x t) (arrow y u) c others = refl

-- the second of two arguments
pub second_is : (gs : List Arg) (a b : Arg) → length gs ≡ 2 → b ≡ get_or gs 1 a → b ≡ get_or gs 1 b
second_is [] a b n is = refl
second_is (g ∷ []) a b n is = refl
second_is (g ∷ i ∷ gs) a b n is = is

module _ (env : Vars) (fold : Folding) (gs : List Arg) (a b : Arg) (s s1 : State) (r : Result Value CallFault) where
  -- the two arguments, one after the other
  pub fold_as : length gs ≡ 2 → a ≡ get_or gs 0 a → b ≡ get_or gs 1 b → Evaluates plain AllKnown r s s1 (λ names. eval_argument env (argument_of a) >>= fold_rest env fold (argument_of b))
      → Evaluates plain AllKnown r s s1 (λ names. eval_folding env (arguments_of gs) fold)
  fold_as n is_first is_second h =
      evaluates_as plain AllKnown r s s1 (λ names. eval_argument env (argument_of a) >>= fold_rest env fold (argument_of b)) (λ names. eval_folding env (arguments_of gs) fold)
      (λ names. fold_two env fold (argument_of a) (argument_of b) ∙ ap (λ x. eval_folding env x fold) (sym (two_arguments gs a b n is_first is_second))) h

-- the entries, and what comes of them
listed_bind : {A : Type 0} (o : Option (Items Things)) (f : Items Things → Process A) → listed o (λ ds. gives ds) >>= f ≡ listed o f
listed_bind None f = refl
listed_bind (Some ds) f = refl

-- a list that may be missing, handed on
pub listed_if_bind : {A : Type 0} (o : Option Plain) (f : Items Things → Process A) → listed_if o (λ ds. gives ds) >>= f ≡ listed_if o f
listed_if_bind None f = refl
listed_if_bind (Some d) f = listed_bind (as_list d) f

-- the plain values from one on
pub plain_of_all-drop : (names : Named) (vs : List Value) (i : ℕ) (v : Value) → i < length vs → v ≡ get_or vs i v → plain_of_all names (drop i vs) ≡ item (plain names v) (plain_of_all names (drop (i + 1) vs))
plain_of_all-drop names vs i v within is = ap (plain_of_all names) (drop_more vs i v within) ∙ ap (λ x. item (plain names x) (plain_of_all names (drop (i + 1) vs))) (sym is)

-- a value at its place is known
pub known_at : (names : Named) (vs : List Value) (i : ℕ) (v : Value) → i < length vs → v ≡ get_or vs i v → AllKnownIn names vs → AllKnown names v
known_at names [] i v within is all = absurd (omega (arith, within))
known_at names (u ∷ vs) zero v within is all = subst (AllKnown names) (sym is) all.0
known_at names (u ∷ vs) (suc i) v within is all = known_at names vs i v (omega (arith, within)) is all.1

module _ (ps : Vars) (x : List ℕ) (t : Tree) (fold : Folding) (s s1 : State) (v : Value) (vs : List Value) (rest : Named → Items Things) (same : s.parameters ≡ ps) where
  abbrev over : Plain → Process Plain
  over e = eval ((x, e) ∷ ps) t

  -- what is left once it is known whether the entries that are left are looked at
  abbrev then_on : Named → Plain → Bool → Process Plain
  then_on names d b = if b then fold_on fold over (join (plain_of_all names vs) (gathered_at fold (plain names v) d)) (rest names) else finished fold false (plain_of_all names vs)

  applied : (r : Result Value CallFault) → Evaluates plain AllKnown r s s1 (λ names. eval ((x, plain names v) ∷ s.parameters) t) → Evaluates plain AllKnown r s s1 (λ names. over (plain names v))
  applied r h = subst (λ qs. Evaluates plain AllKnown r s s1 (λ names. eval ((x, plain names v) ∷ qs) t)) same h

  -- the arrow was refused
  pub entry_exit : (r : Result Value CallFault) (e : CallFault) → IsErrAnd r (λ y. y ≡ e) → Evaluates plain AllKnown (Err e) s s1 (λ names. eval ((x, plain names v) ∷ s.parameters) t)
      → Evaluates plain AllKnown r s s1 (λ names. fold_on fold over (plain_of_all names vs) (item (plain names v) (rest names)))
  entry_exit r e failed h = evaluates_exit plain AllKnown plain AllKnown r e s s1 (λ names. over (plain names v)) (λ names d. goes_on fold d >>= then_on names d) failed (applied (Err e) h)

  module _ (w : Value) (h : Evaluates plain AllKnown (Ok w) s s1 (λ names. eval ((x, plain names v) ∷ s.parameters) t)) where
    -- the arrow gave no truth value
    pub value_wrong : (r : Result Value CallFault) (e : CallFault) → IsErrAnd r (λ y. y ≡ e) → Evaluates itself no_semigroup (Err e) s1 s1 (λ names. goes_on fold (plain names w))
        → Evaluates plain AllKnown r s s1 (λ names. fold_on fold over (plain_of_all names vs) (item (plain names v) (rest names)))
    value_wrong r e failed g =
        evaluates_then plain AllKnown plain AllKnown w r s s1 s1 (λ names. over (plain names v)) (λ names d. goes_on fold d >>= then_on names d) (applied (Ok w) h)
        (evaluates_exit itself no_semigroup plain AllKnown r e s1 s1 (λ names. goes_on fold (plain names w)) (λ names. then_on names (plain names w)) failed g)

    -- it is known, or there are further entries
    pub entry_then : (b : Bool) (r : Result Value CallFault) (s2 : State) → Evaluates itself no_semigroup (Ok b) s1 s1 (λ names. goes_on fold (plain names w)) → Evaluates plain AllKnown r s1 s2 (λ names. then_on names (plain names w) b)
        → Evaluates plain AllKnown r s s2 (λ names. fold_on fold over (plain_of_all names vs) (item (plain names v) (rest names)))
    entry_then b r s2 g k =
        evaluates_then plain AllKnown plain AllKnown w r s s1 s2 (λ names. over (plain names v)) (λ names d. goes_on fold d >>= then_on names d) (applied (Ok w) h)
        (evaluates_then itself no_semigroup plain AllKnown b r s1 s1 s2 (λ names. goes_on fold (plain names w)) (λ names. then_on names (plain names w)) g k)

    -- what an entry brings is gathered, and the others follow
    pub entry_gathered : (ws : List Value) (r : Result Value CallFault) (s2 : State) → ((names : Named) → plain_of_all names ws ≡ join (plain_of_all names vs) (gathered_at fold (plain names v) (plain names w)))
        → Evaluates plain AllKnown r s1 s2 (λ names. fold_on fold over (plain_of_all names ws) (rest names)) → Evaluates plain AllKnown r s1 s2 (λ names. then_on names (plain names w) true)
    entry_gathered ws r s2 is k = evaluates_as plain AllKnown r s1 s2 (λ names. fold_on fold over (plain_of_all names ws) (rest names)) (λ names. then_on names (plain names w) true) (λ names. ap (λ ds. fold_on fold over ds (rest names)) (is names)) k

-- the values from one on are known
pub known-drop : (names : Named) (i : ℕ) (vs : List Value) → AllKnownIn names vs → AllKnownIn names (drop i vs)
known-drop names zero vs all = all
known-drop names (suc i) [] all = all
known-drop names (suc i) (v ∷ vs) all = known-drop names i vs all.1
