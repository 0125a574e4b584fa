-- Values where they stand, found by their names.
use Rattle.std.proofs.Common.{◌≡◌, ℕ, List, [], Option, Some, None, Result, Ok, Err, Bor, IsErrAnd, refl, ap, sym, ◌∙◌, subst}
use Rattle.sg_value.specs.Known.{named}
use Rattle.std.specs.Map.{lookup}
use Rattle.std.specs.Str.{bytes_eq}
use Rattle.sg_value.specs.Plain.{Named, AllKnown, plain, contents}
use Rattle.sg_value.specs.declared.value.Value.{Value}
use Rattle.sg_rows.specs.Order.{Plain}
use Rattle.sg_rows.specs.declared.fault.CallFault.{CallFault}
use Rattle.sg_rows.specs.declared.fault.CallFault.TheVariants.{Script, Memory}
use Rattle.sg_rows.specs.declared.fault.Fault.{Fault}
use Rattle.sg_rows.specs.declared.fault.Fault.TheVariants.{UnknownName}
use Rattle.std.proofs.lemmas.Result.{err_from_is_err_and}
use Rattle.sg_store.specs.Interned.{Keeps}
use Rattle.sg_meaning.specs.Expressions.{looked_up, known}
use Rattle.sg_eval.specs.Outcomes.{RunsOver, Gives, Evaluates, Finds, plain_of, known_of}
use Rattle.sg_meaning.specs.Process.{Process, gives, ◌>>=◌, Runs}
use Rattle.sg_rows.specs.Asks.{Asking}
use Rattle.sg_store.specs.Attributes.{Attributes}
use Rattle.sg_eval.proofs.Over.{over_refuses}
use Rattle.sg_eval.specs.State.{State, vars_of, values_of, AreKnown, AreKnownIn}
use Rattle.sg_meaning.specs.Vars.{Vars, value_at}
use Rattle.sg_eval.specs.declared.variable.Variable.{Variable}
use Rattle.sg_eval.proofs.Evaluating.{keeps_all, keeps_then, evaluates_then, evaluates_exit, evaluates_as, evaluates_gives}
use Rattle.sg_meaning.proofs.Sequels.{right_unit}
use Rattle.sg_eval.proofs.Later.{parameter_found, variable_found, copy_known, copy_plain}
use Rattle.sg_eval.proofs.Named.{Pairs}

-- the same, of a value and of where it stands
seen_at : (v : Bor Value) (s : State) (p : Named → Process Plain) → Evaluates plain AllKnown (Ok v.now) s s p → Evaluates plain_of known_of (Ok v) s s p
seen_at v s p h = record { keeps = h.keeps; variables = h.variables; budget = h.budget; parameters = h.parameters; is_known = h.is_known; gives = h.gives }

-- a value where it stands is that value
pub value_at_place : (v : Bor Value) (s : State) (p : Named → Process Plain) → Evaluates plain_of known_of (Ok v) s s p → Evaluates plain AllKnown (Ok v.now) s s p
value_at_place v s p h = record { keeps = h.keeps; variables = h.variables; budget = h.budget; parameters = h.parameters; is_known = h.is_known; gives = h.gives }

-- the value of a parameter
pub parameter_there : (s : State) (x : List ℕ) (ps : List Variable) (v : Bor Value) → s.parameters ≡ vars_of s.names ps → lookup (bytes_eq x) (vars_of s.names ps) ≡ Some (plain (named s.names) v.now)
    → AllKnown (named s.names) v.now → Evaluates plain_of known_of (Ok v) s s (λ names. looked_up (lookup (bytes_eq x) s.parameters) x)
parameter_there s x ps v params found is_known =
    seen_at v s (λ names. looked_up (lookup (bytes_eq x) s.parameters) x) (parameter_found s x v.now v.now (ap (lookup (bytes_eq x)) params ∙ found) is_known refl)

-- the value of a variable
pub variable_there : (s : State) (x : List ℕ) (ps : List Variable) (es : Pairs) (v : Bor Value) → s.parameters ≡ vars_of s.names ps → s.variables ≡ values_of s.names es → lookup (bytes_eq x) (vars_of s.names ps) ≡ None
    → lookup (bytes_eq x) (values_of s.names es) ≡ Some (plain (named s.names) v.now) → AllKnown (named s.names) v.now → Evaluates plain_of known_of (Ok v) s s (λ names. looked_up (lookup (bytes_eq x) s.parameters) x)
variable_there s x ps es v params vars absent found is_known =
    seen_at v s (λ names. looked_up (lookup (bytes_eq x) s.parameters) x) (variable_found s x v.now v.now (ap (lookup (bytes_eq x)) params ∙ absent) (ap (lookup (bytes_eq x)) vars ∙ found) is_known refl)

-- a name that has no value
pub name_unknown : (s : State) (x : List ℕ) (ps : List Variable) (es : Pairs) → s.parameters ≡ vars_of s.names ps → s.variables ≡ values_of s.names es → lookup (bytes_eq x) (vars_of s.names ps) ≡ None
    → lookup (bytes_eq x) (values_of s.names es) ≡ None → Evaluates plain_of known_of (Err (Script UnknownName)) s s (λ names. looked_up (lookup (bytes_eq x) s.parameters) x)
name_unknown s x ps es params vars absent missing =
    subst (λ o. Evaluates plain_of known_of (Err (Script UnknownName)) s s (λ names. looked_up o x)) (sym (ap (lookup (bytes_eq x)) params ∙ absent))
    (record {
      keeps = keeps_all s.names;
      variables = refl;
      budget = refl;
      parameters = tt;
      is_known = tt;
      gives = λ final later. subst (λ o. RunsOver s.budget (known o) s.variables (Err UnknownName) s.variables [] s.attributes s.attributes) (sym (ap (lookup (bytes_eq x)) vars ∙ missing)) (over_refuses {A = Plain} s.budget UnknownName s.variables s.attributes);
    })

-- a name whose value is known by now has no other
named_only : {B : Type 0} (n : ℕ) (o : Option Plain) (x : List ℕ) (d : Plain) (g : Plain → Process B) (vars : Vars) (end : Result B Fault) (vars' : Vars) (bs : List ℕ) (xs ys : List Asking)
    → Runs n (looked_up o x) vars (Ok d) vars [] xs → Runs n (looked_up o x >>= g) vars end vars' bs ys → Runs n (g d) vars end vars' bs ys
named_only n (Some e) x d g vars end vars' bs xs ys h k = let same : e ≡ d = cc in subst (λ y. Runs n (g y) vars end vars' bs ys) same k
named_only n None x d g vars end vars' bs xs ys h k = by_value (value_at vars x) h k
  where
    by_value : (o : Option Plain) → Runs n (known o) vars (Ok d) vars [] xs → Runs n (known o >>= g) vars end vars' bs ys → Runs n (g d) vars end vars' bs ys
    by_value (Some e) h k = let same : e ≡ d = cc in subst (λ y. Runs n (g y) vars end vars' bs ys) same k
    by_value None h k = absurd (cc)

-- a fault while a value is looked for
pub look_exit : {Y B : Type 0} (view : Named → Y → B) (known : Named → Y → Type 0) (r : Result Y CallFault) (e : CallFault) (s : State) (p : Named → Process Plain) (f : Named → Plain → Process B) → IsErrAnd r (λ y. y ≡ e)
    → Evaluates plain_of known_of (Err e) s s p → Evaluates view known r s s (λ names. p names >>= f names)
look_exit view known r e s p f failed h = evaluates_exit plain_of known_of view known r e s s p f failed h

-- a name that is not found, as a look-up hands it on
pub finds_exit : (r : Result (Unit {0}) CallFault) (e : CallFault) (s : State) (p : Named → Process Plain) → IsErrAnd r (λ y. y ≡ e) → Evaluates plain_of known_of (Err e) s s p → Finds r s p
finds_exit r e s p failed h =
    let q = err_from_is_err_and r failed in
    subst (λ t. Finds t s p) (sym (q.1 ∙ ap Err q.2)) (exit e h)
  where
    exit : (e : CallFault) → Evaluates plain_of known_of (Err e) s s p → Evaluates plain AllKnown (Err e) s s p
    exit (Script d) h = record { keeps = h.keeps; variables = h.variables; budget = h.budget; parameters = tt; is_known = tt; gives = h.gives }
    exit (Memory m) h = record { keeps = h.keeps; variables = h.variables; budget = h.budget; parameters = tt; is_known = tt; gives = λ final later. tt }

-- a fault of a look-up, where a copy was wanted
pub copied_exit : (r : Result Value CallFault) (e : CallFault) (s : State) (p : Named → Process Plain) → IsErrAnd r (λ y. y ≡ e) → Evaluates plain_of known_of (Err e) s s p → Evaluates plain AllKnown r s s p
copied_exit r e s p failed h =
    evaluates_as plain AllKnown r s s (λ names. p names >>= (λ d. gives d)) p (λ names. right_unit (p names)) (evaluates_exit plain_of known_of plain AllKnown r e s s p (λ names d. gives d) failed h)

-- a copy of a value where it stands
pub copied : (v : Bor Value) (w : Value) (s : State) (p : Named → Process Plain) → contents w ≡ contents v.now → Evaluates plain_of known_of (Ok v) s s p → Evaluates plain AllKnown (Ok w) s s p
copied v w s p copy h =
    evaluates_as plain AllKnown (Ok w) s s (λ names. p names >>= (λ d. gives d)) p (λ names. right_unit (p names))
    (evaluates_then plain_of known_of plain AllKnown v (Ok w) s s s p (λ names d. gives d) h
    (evaluates_gives plain AllKnown w s (λ names. plain names v.now) (copy_known (named s.names) v.now w copy h.is_known) (λ final later. copy_plain (named final) v.now w copy)))

-- what is found over a machine
pub found_over : (r : Result (Bor Value) CallFault) (s : State) (x : List ℕ) (ps qs : List Variable) (es : Pairs)
    → ((s : State) → s.parameters ≡ vars_of s.names qs → s.variables ≡ values_of s.names es → AreKnown s.names qs → AreKnownIn s.names es → Evaluates plain_of known_of r s s (λ names. looked_up (lookup (bytes_eq x) s.parameters) x))
    → qs ≡ ps → s.parameters ≡ vars_of s.names ps → s.variables ≡ values_of s.names es → AreKnown s.names ps → AreKnownIn s.names es → Evaluates plain_of known_of r s s (λ names. looked_up (lookup (bytes_eq x) s.parameters) x)
found_over r s x ps qs es h same params vars known_ps known_es = h s (subst (λ ws. s.parameters ≡ vars_of s.names ws) (sym same) params) vars (subst (AreKnown s.names) (sym same) known_ps) known_es

gives_only : {Y B : Type 0} (view : Y → B) (r : Result Y CallFault) (n : ℕ) (o : Option Plain) (x : List ℕ) (d : Plain) (g : Plain → Process B) (vars : Vars) (xs : List Asking) (a a' : Attributes)
    → Runs n (looked_up o x) vars (Ok d) vars [] xs → Gives view r n (looked_up o x >>= g) vars a a' → Gives view r n (g d) vars a a'
gives_only view (Ok y) n o x d g vars xs a a' h k = (k.0, named_only n o x d g vars (Ok (view y)) vars [] xs k.0 h k.1, k.2)
gives_only view (Err (Script e)) n o x d g vars xs a a' h k = (k.0, named_only n o x d g vars (Err e) vars [] xs k.0 h k.1, k.2)
gives_only view (Err (Memory m)) n o x d g vars xs a a' h k = tt

-- what comes of a name comes of its value, which was found before
pub entry_only : (s s1 : State) (x : List ℕ) (v : Value) (r : Result Value CallFault) → s1.parameters ≡ s.parameters → s1.variables ≡ s.variables → s1.budget ≡ s.budget → Keeps s.names s1.names → (g : Named → Plain → Process Plain)
    → Evaluates plain AllKnown (Ok v) s s (λ names. looked_up (lookup (bytes_eq x) s.parameters) x) → Evaluates plain AllKnown r s1 s1 (λ names. looked_up (lookup (bytes_eq x) s1.parameters) x >>= g names)
    → Evaluates plain AllKnown r s1 s1 (λ names. g names (plain names v))
entry_only s s1 x v r params vars budget kept g h k = record {
  keeps = k.keeps;
  variables = k.variables;
  budget = k.budget;
  parameters = k.parameters;
  is_known = k.is_known;
  gives = λ final later.
      let d = plain (named final) v in
      let name = h.gives final (keeps_then s.names s1.names final kept later) in
      let found = subst (λ n. Runs n (looked_up (lookup (bytes_eq x) s.parameters) x) s1.variables (Ok d) s1.variables [] name.0) (sym budget)
      (subst (λ vs. Runs s.budget (looked_up (lookup (bytes_eq x) s.parameters) x) vs (Ok d) vs [] name.0) (sym vars) name.1) in
      gives_only (plain (named final)) r s1.budget (lookup (bytes_eq x) s1.parameters) x d (g (named final)) s1.variables name.0 s1.attributes s1.attributes
      (subst (λ ps. Runs s1.budget (looked_up (lookup (bytes_eq x) ps) x) s1.variables (Ok d) s1.variables [] name.0) (sym params) found) (k.gives final later);
}
