-- Variables over a later store, and values found by their names.
use Rattle.std.proofs.Common.{◌≡◌, ◌∷◌, ℕ, suc, List, [], Some, None, Ok, length, get_or, refl, ap, ap₂, sym, ◌∙◌, subst, arith}
use Rattle.sg_value.specs.Known.{Known, named}
use Rattle.std.specs.Map.{lookup}
use Rattle.std.specs.Str.{bytes_eq}
use Rattle.sg_value.specs.Data.{data_map, EachThing}
use Rattle.sg_value.specs.Plain.{Named, AllKnown, AllKnownIn, contents, plain, plain_of_all, thing_at, IsKnown}
use Rattle.sg_value.specs.declared.value.Value.{Value}
use Rattle.sg_store.specs.Interned.{Keeps}
use Rattle.sg_rows.specs.Asks.{Asking}
use Rattle.sg_rows.specs.Order.{Plain, Reply, IsReply, AreAsked}
use Rattle.sg_calls.specs.Rows.{row}
use Rattle.sg_calls.specs.declared.command.Command.{Command}
use Rattle.sg_rows.specs.Entries.{entry_count}
use Rattle.sg_meaning.specs.Expressions.{looked_up, known}
use Rattle.sg_meaning.specs.Queries.{calls, IsAnswer}
use Rattle.sg_eval.specs.Outcomes.{RunsOver, Evaluates}
use Rattle.sg_eval.proofs.Over.{over_gives}
use Rattle.sg_eval.specs.State.{State, vars_of, AreKnown}
use Rattle.sg_eval.specs.declared.variable.Variable.{Variable}
use Rattle.sg_eval.proofs.Evaluating.{known_later, plain_later, plain_of_all_later, evaluates_gives, keeps_all}

-- parameters that are known stay known
pub are_known_later : (a b : Known) (vs : List Variable) → Keeps a b → AreKnown a vs → AreKnown b vs
are_known_later a b vs kept known = λ k d within. known_later a b (get_or vs k d).value kept (known k d within)

-- the plain parameters over a later store
pub vars_later : (a b : Known) (vs : List Variable) → Keeps a b → AreKnown a vs → vars_of b vs ≡ vars_of a vs
vars_later a b [] kept is_known = refl
vars_later a b (v ∷ vs) kept is_known =
    ap₂ (λ (d : Plain) rest. (v.name, d) ∷ rest) (plain_later a b v.value kept (is_known 0 v (omega arith))) (vars_later a b vs kept (λ k d within. is_known (suc k) d (omega (arith, within))))

-- there are as many plain values
pub entry_count-plain : (names : Named) (vs : List Value) → entry_count (plain_of_all names vs) ≡ length vs
entry_count-plain names [] = refl
entry_count-plain names (v ∷ vs) = ap suc (entry_count-plain names vs)

-- the reply of a command, and what it asks for, over a later store
pub row_answered : (n : ℕ) (a b : Known) (vs : List Value) (c : Command) (t : Reply) (asked : List Asking) → Keeps a b → AllKnownIn (named a) vs
    → IsReply (row n c (plain_of_all (named a) vs)) t → AreAsked (row n c (plain_of_all (named a) vs)) asked → IsAnswer n (calls c (plain_of_all (named b) vs)) t asked
row_answered n a b vs c t asked kept is_known h w = subst (λ ds. IsAnswer n (calls c ds) t asked) (sym (plain_of_all_later a b vs kept is_known)) (h, w)

-- a copy of a value
pub copy_plain : (names : Named) (v w : Value) → contents w ≡ contents v → plain names w ≡ plain names v
copy_plain names v w h = ap (data_map (thing_at names)) h

-- a copy is known
pub copy_known : (names : Named) (v w : Value) → contents w ≡ contents v → AllKnown names v → AllKnown names w
copy_known names v w h is_known = subst (EachThing (IsKnown names)) (sym h) is_known

-- a name is that of a parameter
pub parameter_found : (s : State) (name : List ℕ) (v w : Value) → lookup (bytes_eq name) s.parameters ≡ Some (plain (named s.names) v) → AllKnown (named s.names) v → contents w ≡ contents v
    → Evaluates plain AllKnown (Ok w) s s (λ names. looked_up (lookup (bytes_eq name) s.parameters) name)
parameter_found s name v w found is_known copy =
    subst (λ o. Evaluates plain AllKnown (Ok w) s s (λ names. looked_up o name)) (sym found)
    (evaluates_gives plain AllKnown w s (λ names. plain (named s.names) v) (copy_known (named s.names) v w copy is_known)
    (λ final later. copy_plain (named final) v w copy ∙ plain_later s.names final v later is_known))

-- a name is that of a variable alone
pub variable_found : (s : State) (name : List ℕ) (v w : Value) → lookup (bytes_eq name) s.parameters ≡ None → lookup (bytes_eq name) s.variables ≡ Some (plain (named s.names) v)
    → AllKnown (named s.names) v → contents w ≡ contents v → Evaluates plain AllKnown (Ok w) s s (λ names. looked_up (lookup (bytes_eq name) s.parameters) name)
variable_found s name v w absent found is_known copy =
    subst (λ o. Evaluates plain AllKnown (Ok w) s s (λ names. looked_up o name)) (sym absent)
    (record {
      keeps = keeps_all s.names;
      variables = refl;
      budget = refl;
      parameters = refl;
      is_known = copy_known (named s.names) v w copy is_known;
      gives = λ final later. subst (λ o. RunsOver s.budget (known o) s.variables (Ok (plain (named final) w)) s.variables [] s.attributes s.attributes) (sym found)
          (over_gives s.budget (plain (named final) w) (plain (named s.names) v) s.variables s.attributes (copy_plain (named final) v w copy ∙ plain_later s.names final v later is_known));
    })
