-- Integers and truth values that are there at once.
use Rattle.std.proofs.Common.{◌≡◌, ℕ, ℤ, List, [], Bool, false, Option, Some, None, Result, Ok, Err, OnOk, OnErr, Bor, Vec, Global, refl, ap, sym, ◌∙◌, subst}
use Rattle.std.specs.Prelude.{IfSome}
use Rattle.std.specs.declared.alloc.AllocError.{AllocError}
use Rattle.sg_value.specs.Known.{Known, named}
use Rattle.sg_value.specs.Data.{Data, Kind, EachThing, int, truth, text, list, ratio, fail, semigroup, ideal}
use Rattle.sg_value.specs.Plain.{Named, AllKnown, IsKnown, contents, plain}
use Rattle.sg_value.specs.declared.value.Value.{Value}
use Rattle.sg_value.specs.declared.value.Value.TheVariants as value
use Rattle.sg_rows.specs.Order.{Plain, Reply}
use Rattle.sg_rows.specs.Kinds.{as_integer}
use Rattle.sg_rows.proofs.Replying.{contents-Int, contents-Bool, plain_integer, plain_truth}
use Rattle.sg_calls.specs.declared.operator.Operator.{Operator}
use Rattle.sg_tree.specs.Tree.{Tree, Links, link}
use Rattle.sg_tree.specs.declared.expr.Op.{Op}
use Rattle.sg_tree.specs.declared.expr.Op.TheVariants.{Or, And, Plus, Less, Times, Mod}
use Rattle.sg_tree.specs.declared.expr.Rel.{Rel}
use Rattle.sg_eval.specs.AtOnce.{GivesInteger, GivesTruth, Calculates, Compares}
use Rattle.sg_meaning.specs.Expressions.{eval, eval_links, ask, relation}
use Rattle.sg_eval.specs.Linked.{arithmetic, ends_chain, linked, compared_with}
use Rattle.sg_eval.specs.Outcomes.{RunsOver, Evaluates, plain_of, known_of}
use Rattle.sg_meaning.specs.Process.{Process, gives, ◌>>=◌}
use Rattle.sg_meaning.specs.Queries.{combines, IsAnswer}
use Rattle.sg_eval.specs.State.{State, AreKnownIn}
use Rattle.sg_eval.specs.Truths.{itself, no_semigroup}
use Rattle.sg_meaning.specs.Vars.{Vars, with_value}
use Rattle.sg_eval.proofs.Borrowed.{copied}
use Rattle.sg_eval.proofs.Over.{over_told}
use Rattle.sg_eval.proofs.Evaluating.{keeps_all, evaluates_as, evaluates_gives, evaluates_then}
use Rattle.sg_eval.proofs.Steps.{link_then, linked_combines}

integer_is : {H : Kind → Type 0} (d : Data H) (z : ℤ) → as_integer d ≡ Some z → d ≡ int z
integer_is (int y) z is = let same : y ≡ z = cc in ap int same
integer_is (truth b) z is = absurd (cc)
integer_is (text bs) z is = absurd (cc)
integer_is (list ds) z is = absurd (cc)
integer_is (ratio p q) z is = absurd (cc)
integer_is fail z is = absurd (cc)
integer_is (semigroup h) z is = absurd (cc)
integer_is (ideal h) z is = absurd (cc)

integer_known : (names : Named) (z : ℤ) → AllKnown names (value.Int z)
integer_known names z = subst (EachThing (IsKnown names)) (sym (contents-Int z)) tt

truth_known : (names : Named) (b : Bool) → AllKnown names (value.Bool b)
truth_known names b = subst (EachThing (IsKnown names)) (sym (contents-Bool b)) tt

-- the integer of a name
pub named_integer : (v : Bor Value) (o : Option ℤ) (s : State) (p : Named → Process Plain) → o ≡ as_integer (contents v.now) → Evaluates plain_of known_of (Ok v) s s p → IfSome o (GivesInteger s p)
named_integer v None s p is h = tt
named_integer v (Some z) s p is h = copied v (value.Int z) s p (contents-Int z ∙ sym (integer_is (contents v.now) z (sym is))) h

-- a number
pub number_there : (s : State) (z : ℤ) → GivesInteger s (λ names. gives (int z)) z
number_there s z = evaluates_gives plain AllKnown (value.Int z) s (λ names. int z) (integer_known (named s.names) z) (λ final later. plain_integer final (value.Int z) z (contents-Int z))

-- an operator of two integers that are there, which asks for nothing
combined_there : (s : State) (final : Known) (o : Operator) (x y : ℤ) (r : Reply) → IsAnswer s.budget (combines o (int x) (int y)) r []
    → RunsOver s.budget (ask (combines o (plain (named final) (value.Int x)) (plain (named final) (value.Int y)))) s.variables r s.variables [] s.attributes s.attributes
combined_there s final o x y r h =
    subst (λ d. RunsOver s.budget (ask (combines o d (plain (named final) (value.Int y)))) s.variables r s.variables [] s.attributes s.attributes) (sym (plain_integer final (value.Int x) x (contents-Int x)))
    (subst (λ d. RunsOver s.budget (ask (combines o (int x) d)) s.variables r s.variables [] s.attributes s.attributes) (sym (plain_integer final (value.Int y) y (contents-Int y)))
    (over_told s.budget (combines o (int x) (int y)) r s.variables s.attributes h))

-- an operator of two integers that are there gives a third
calculated_there : (s : State) (o : Operator) (x y z : ℤ) → ((n : ℕ) → IsAnswer n (combines o (int x) (int y)) (Ok (int z)) []) → GivesInteger s (λ names. ask (combines o (plain names (value.Int x)) (plain names (value.Int y)))) z
calculated_there s o x y z h = record {
  keeps = keeps_all s.names;
  variables = refl;
  budget = refl;
  parameters = refl;
  is_known = integer_known (named s.names) z;
  gives = λ final later. subst (λ d. RunsOver s.budget (ask (combines o (plain (named final) (value.Int x)) (plain (named final) (value.Int y)))) s.variables (Ok d) s.variables [] s.attributes s.attributes)
      (sym (plain_integer final (value.Int z) z (contents-Int z))) (combined_there s final o x y (Ok (int z)) (h s.budget));
}

-- an operator on integers ends no chain
ends_not : (op : Op) (o : Operator) (d : Plain) → arithmetic op ≡ Some o → gives false ≡ ends_chain op d
ends_not Or o d is = absurd (cc)
ends_not And o d is = absurd (cc)
ends_not Plus o d is = refl
ends_not Less o d is = refl
ends_not Times o d is = refl
ends_not Mod o d is = refl

-- one link more of a chain of integers
pub link_there : (s : State) (op : Op) (t : Tree) (ls : Links) (x y z : ℤ) → Calculates op x y z → GivesInteger s (λ names. eval s.parameters t) y
    → (w : ℤ) → GivesInteger s (λ names. eval_links s.parameters (plain names (value.Int z)) ls) w → GivesInteger s (λ names. eval_links s.parameters (plain names (value.Int x)) (link op t ls)) w
link_there s op t ls x y z calculates there w rest =
    let ps = s.parameters in
    let o = calculates.0 in
    link_then ps s op t ls (value.Int x) s s (value.Int z) (Ok (value.Int w)) refl
    (evaluates_as itself no_semigroup (Ok false) s s (λ names. gives false) (λ names. ends_chain op (plain names (value.Int x))) (λ names. ends_not op o (plain names (value.Int x)) calculates.1)
    (evaluates_gives itself no_semigroup false s (λ names. false) tt (λ final later. refl)))
    (evaluates_as plain AllKnown (Ok (value.Int z)) s s (λ names. compared_with ps o (plain names (value.Int x)) t) (λ names. linked ps op t (plain names (value.Int x))) (λ names. linked_combines ps op o t (plain names (value.Int x)) calculates.1)
    (evaluates_then plain AllKnown plain AllKnown (value.Int y) (Ok (value.Int z)) s s s (λ names. eval ps t) (λ names b. ask (combines o (plain names (value.Int x)) b)) there (calculated_there s o x y z calculates.2)))
    rest

-- a chain: its first operand, and what comes of its links
pub chain_there : (s : State) (t : Tree) (ls : Links) (x w : ℤ) → GivesInteger s (λ names. eval s.parameters t) x → GivesInteger s (λ names. eval_links s.parameters (plain names (value.Int x)) ls) w
    → GivesInteger s (λ names. eval s.parameters t >>= (λ d. eval_links s.parameters d ls)) w
chain_there s t ls x w first rest = evaluates_then plain AllKnown plain AllKnown (value.Int x) (Ok (value.Int w)) s s s (λ names. eval s.parameters t) (λ names d. eval_links s.parameters d ls) first rest

-- no link is left
pub links_over : (s : State) (z : ℤ) → GivesInteger s (λ names. gives (plain names (value.Int z))) z
links_over s z = evaluates_gives plain AllKnown (value.Int z) s (λ names. plain names (value.Int z)) (integer_known (named s.names) z) (λ final later. refl)

-- two integers that are there compare
pub compared_there : (s : State) (rel : Rel) (t u : Tree) (x y : ℤ) (b : Bool) → Compares rel x y b → GivesInteger s (λ names. eval s.parameters t) x → GivesInteger s (λ names. eval s.parameters u) y
    → GivesTruth s (λ names. eval s.parameters t >>= (λ d. eval s.parameters u >>= (λ e. ask (combines (relation rel) d e)))) b
compared_there s rel t u x y b h left right =
    let ps = s.parameters in
    let o = relation rel in
    evaluates_then plain AllKnown plain AllKnown (value.Int x) (Ok (value.Bool b)) s s s (λ names. eval ps t) (λ names d. eval ps u >>= (λ e. ask (combines o d e))) left
    (evaluates_then plain AllKnown plain AllKnown (value.Int y) (Ok (value.Bool b)) s s s (λ names. eval ps u) (λ names e. ask (combines o (plain names (value.Int x)) e)) right
    (record {
      keeps = keeps_all s.names;
      variables = refl;
      budget = refl;
      parameters = refl;
      is_known = truth_known (named s.names) b;
      gives = λ final later. subst (λ d. RunsOver s.budget (ask (combines o (plain (named final) (value.Int x)) (plain (named final) (value.Int y)))) s.variables (Ok d) s.variables [] s.attributes s.attributes)
          (sym (plain_truth final (value.Bool b) b (contents-Bool b))) (combined_there s final o x y (Ok (truth b)) (h s.budget));
    }))

-- a fact that holds where a call ended well
pub on_ok : {X E : Type 0} (r : Result X E) (P Q : Type 0) → (P → Q) → OnOk r P → OnOk r Q
on_ok (Ok x) P Q f h = f h
on_ok (Err e) P Q f h = tt

-- a variable with an integer for its value
pub integer_set : (names : Known) (v : Value) (z : ℤ) (x : List ℕ) (vars after : Vars) → contents v ≡ int z → after ≡ with_value x (plain (named names) v) vars → after ≡ with_value x (int z) vars
integer_set names v z x vars after is h = h ∙ ap (λ d. with_value x d vars) (plain_integer names v z is)

-- an integer is known to any store
pub is_integer_known : (names : Named) (v : Value) (z : ℤ) → contents v ≡ int z → AllKnown names v
is_integer_known names v z is = subst (EachThing (IsKnown names)) (sym is) tt

-- variables that were known are so after one got an integer, and after a refusal
pub known_set : (names : Known) (r : Result (Unit {0}) AllocError) (es fs : List (Vec ℕ Global × Value)) → OnOk r ((names : Known) → AreKnownIn names es → AreKnownIn names fs) → OnErr r (fs ≡ es) → AreKnownIn names es → AreKnownIn names fs
known_set names (Ok u) es fs set same all = set names all
known_set names (Err e) es fs set same all = subst (AreKnownIn names) (sym same) all

-- what follows from a fact about the value, if there is one
pub if_some : {X : Type 0} (o : Option X) (P Q : X → Type 0) → ((x : X) → P x → Q x) → IfSome o P → IfSome o Q
if_some None P Q f h = tt
if_some (Some x) P Q f h = f x h
