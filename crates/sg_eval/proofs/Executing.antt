-- Pieces of a statement, one after the other.
use Rattle.std.proofs.Common.{◌≡◌, ℕ, List, [], ◌++◌, Option, Some, None, Result, Ok, Err, OnOk, IfErr, IsErrAnd, inl, inr, refl, ap, sym, ◌∙◌, subst, append_assoc, append-nil}
use Rattle.sg_value.specs.Known.{named}
use Rattle.std.proofs.lemmas.Result.{err_from_is_err_and}
use Rattle.std.specs.Io.KnownBytes.{append_known}
use Rattle.sg_io.specs.Faults.{AppendsFront}
use Rattle.sg_value.specs.Plain.{Named}
use Rattle.sg_store.specs.Interned.{Keeps}
use Rattle.sg_store.specs.Attributes.{Attributes}
use Rattle.sg_rows.specs.declared.fault.Fault.{Fault}
use Rattle.sg_rows.specs.declared.fault.CallFault.{CallFault}
use Rattle.sg_rows.specs.declared.fault.CallFault.TheVariants as call_fault
use Rattle.sg_eval.specs.declared.step_fault.StepFault.{StepFault}
use Rattle.sg_eval.specs.declared.step_fault.StepFault.TheVariants.{Script, Write, Memory}
use Rattle.sg_eval.specs.Outcomes.{RunsOver, Gives, Evaluates}
use Rattle.sg_meaning.specs.Process.{Process, gives, refuses, sets, writes, ◌>>=◌, Breaks}
use Rattle.sg_eval.specs.State.{State, SameStore}
use Rattle.sg_eval.specs.Steps.{Does, Executed, step_fault, IsOutside}
use Rattle.sg_meaning.specs.Vars.{Vars, with_value}
use Rattle.sg_rows.specs.Order.{Plain}
use Rattle.sg_eval.proofs.Evaluating.{keeps_then, keeps_all}
use Rattle.sg_meaning.proofs.Runs.{breaks_first, breaks_then, breaks_in}
use Rattle.sg_eval.proofs.Over.{over_then, over_refused, over_gives, over_refuses}

-- no text more
pub append_known-nil : (o : Option (List ℕ)) → o ≡ append_known o []
append_known-nil None = refl
append_known-nil (Some xs) = ap Some (sym (append-nil xs))

twice : (o : Option (List ℕ)) (a b : List ℕ) → append_known (append_known o a) b ≡ append_known o (a ++ b)
twice None a b = refl
twice (Some xs) a b = ap Some (append_assoc xs a b)

pub joined : (o o1 o2 : Option (List ℕ)) (a b : List ℕ) → o1 ≡ append_known o a → o2 ≡ append_known o1 b → o2 ≡ append_known o (a ++ b)
joined o o1 o2 a b e f = f ∙ (ap (λ k. append_known k b) e ∙ twice o a b)

-- a piece that ended well, and what comes after it
module _ {A B : Type 0} (n : ℕ) (p : Process A) (f : A → Process B) where
  does_then : (vars vars1 vars2 : Vars) (x : A) (t u : List ℕ) (a a1 a2 : Attributes) → RunsOver n p vars (Ok x) vars1 t a a1 → (r : Result B StepFault) → Does r n (f x) vars1 vars2 u a1 a2 → Does r n (p >>= f) vars vars2 (t ++ u) a a2
  does_then vars vars1 vars2 x t u a a1 a2 h (Ok b) g = over_then n p f vars vars1 vars2 x (Ok b) t u a a1 a2 h g
  does_then vars vars1 vars2 x t u a a1 a2 h (Err (Script e)) g = over_then n p f vars vars1 vars2 x (Err e) t u a a1 a2 h g
  does_then vars vars1 vars2 x t u a a1 a2 h (Err Write) g = breaks_then n p f vars vars1 vars2 x t u h.0 h.1 g
  does_then vars vars1 vars2 x t u a a1 a2 h (Err Memory) g = breaks_then n p f vars vars1 vars2 x t u h.0 h.1 g

  does_in : (vars vars' : Vars) (t : List ℕ) (a a' : Attributes) (e : StepFault) → Does {A = A} (Err e) n p vars vars' t a a' → Does {A = B} (Err e) n (p >>= f) vars vars' t a a'
  does_in vars vars' t a a' (Script e) g = over_refused n p f vars vars' e t a a' g
  does_in vars vars' t a a' Write g = breaks_in n p f vars vars' t g
  does_in vars vars' t a a' Memory g = breaks_in n p f vars vars' t g

-- the same budget and the same variables
pub does_as : {B : Type 0} (r : Result B StepFault) (m n : ℕ) (p : Process B) (vs ws vars' : Vars) (t : List ℕ) (a a' : Attributes) → m ≡ n → vs ≡ ws → Does r m p vs vars' t a a' → Does r n p ws vars' t a a'
does_as r m n p vs ws vars' t a a' budget vars g = subst (λ k. Does r k p ws vars' t a a') budget (subst (λ us. Does r m p us vars' t a a') vars g)

-- one piece after another
pub executed_then : {A B : Type 0} (p : Process A) (f : A → Process B) (a : A) (r : Result B StepFault) (s s1 s2 : State) (o o1 o2 : Option (List ℕ))
    → Executed (Ok a) s s1 o o1 p → Executed r s1 s2 o1 o2 (f a) → Executed r s s2 o o2 (p >>= f)
executed_then p f a r s s1 s2 o o1 o2 h g = record {
  keeps = keeps_then s.names s1.names s2.names h.keeps g.keeps;
  budget = g.budget ∙ h.budget;
  parameters = g.parameters;
  gained = h.gained ++ g.gained;
  appended = joined o o1 o2 h.gained g.gained h.appended g.appended;
  does = does_then s.budget p f s.variables s1.variables s2.variables a h.gained g.gained s.attributes s1.attributes s2.attributes h.does r
      (does_as r s1.budget s.budget (f a) s1.variables s1.variables s2.variables g.gained s1.attributes s2.attributes h.budget refl g.does);
}

-- a piece that did not end well, and nothing after it
pub executed_in : {A B : Type 0} (p : Process A) (f : A → Process B) (r : Result B StepFault) (e : StepFault) (s s1 : State) (o o1 : Option (List ℕ)) → IsErrAnd r (λ y. y ≡ e)
    → Executed {A = A} (Err e) s s1 o o1 p → Executed r s s1 o o1 (p >>= f)
executed_in {A} {B} p f r e s s1 o o1 failed h =
    let q = err_from_is_err_and r failed in
    subst (λ t. Executed t s s1 o o1 (p >>= f)) (sym (q.1 ∙ ap Err q.2))
    (record { keeps = h.keeps; budget = h.budget; parameters = tt; gained = h.gained; appended = h.appended; does = does_in s.budget p f s.variables s1.variables h.gained s.attributes s1.attributes e h.does })

-- an expression gave a value, and what comes of it
pub executed_value : {X A B : Type 0} (view : Named → X → A) (known : Named → X → Type 0) (p : Process A) (f : A → Process B) (x : X) (r : Result B StepFault) (s s1 s2 : State) (o o2 : Option (List ℕ))
    → Evaluates view known (Ok x) s s1 (λ names. p) → Executed r s1 s2 o o2 (f (view (named s1.names) x)) → Executed r s s2 o o2 (p >>= f)
executed_value view known p f x r s s1 s2 o o2 h g =
    let y = view (named s1.names) x in
    record {
      keeps = keeps_then s.names s1.names s2.names h.keeps g.keeps;
      budget = g.budget ∙ h.budget;
      parameters = g.parameters;
      gained = g.gained;
      appended = g.appended;
      does = does_then s.budget p f s.variables s.variables s2.variables y [] g.gained s.attributes s1.attributes s2.attributes (h.gives s1.names (keeps_all s1.names)) r
          (does_as r s1.budget s.budget (f y) s1.variables s.variables s2.variables g.gained s1.attributes s2.attributes h.budget h.variables g.does);
    }

-- an expression was refused
gives_fault : {X A B : Type 0} (view : X → A) (n : ℕ) (p : Process A) (f : A → Process B) (vars : Vars) (a a' : Attributes) (e : CallFault) → Gives view (Err e) n p vars a a' → Does {A = B} (Err (step_fault e)) n (p >>= f) vars vars [] a a'
gives_fault view n p f vars a a' (call_fault.Script d) g = over_refused n p f vars vars d [] a a' g
gives_fault view n p f vars a a' (call_fault.Memory m) g = breaks_first n (p >>= f) vars

-- an expression that is refused ends the piece
pub executed_exit : {X A B : Type 0} (view : Named → X → A) (known : Named → X → Type 0) (p : Process A) (f : A → Process B) (r : Result B StepFault) (e : CallFault) (s s1 : State) (o : Option (List ℕ))
    → IsErrAnd r (λ y. y ≡ step_fault e) → Evaluates view known (Err e) s s1 (λ names. p) → Executed r s s1 o o (p >>= f)
executed_exit {X} {A} {B} view known p f r e s s1 o failed h =
    let q = err_from_is_err_and r failed in
    subst (λ t. Executed t s s1 o o (p >>= f)) (sym (q.1 ∙ ap Err q.2))
    (record {
      keeps = h.keeps;
      budget = h.budget;
      parameters = tt;
      gained = [];
      appended = append_known-nil o;
      does = subst (λ vs. Does {A = B} (Err (step_fault e)) s.budget (p >>= f) s.variables vs [] s.attributes s1.attributes) (sym h.variables)
          (gives_fault (view (named s1.names)) s.budget p f s.variables s.attributes s1.attributes e (h.gives s1.names (keeps_all s1.names)));
    })

-- memory ran out before anything was done
pub executed_memory : {B : Type 0} (p : Process B) (r : Result B StepFault) (s s1 : State) (o : Option (List ℕ)) → IsErrAnd r (λ y. y ≡ Memory) → Keeps s.names s1.names → s1.variables ≡ s.variables → s1.budget ≡ s.budget → Executed r s s1 o o p
executed_memory {B} p r s s1 o failed keeps same budget =
    let q = err_from_is_err_and r failed in
    subst (λ t. Executed t s s1 o o p) (sym (q.1 ∙ ap Err q.2))
    (record { keeps = keeps; budget = budget; parameters = tt; gained = []; appended = append_known-nil o; does = subst (λ vs. Breaks s.budget p s.variables vs []) (sym same) (breaks_first s.budget p s.variables) })

-- it is there at once
pub executed_gives : {B : Type 0} (b : B) (s : State) (o : Option (List ℕ)) → s.parameters ≡ [] → Executed (Ok b) s s o o (gives b)
executed_gives b s o none = record { keeps = keeps_all s.names; budget = refl; parameters = none; gained = []; appended = append_known-nil o; does = over_gives s.budget b b s.variables s.attributes refl }

-- a piece that is refused at once
pub executed_refuses : {B : Type 0} (e : Fault) (s : State) (o : Option (List ℕ)) → Executed {A = B} (Err (Script e)) s s o o (refuses e)
executed_refuses {B} e s o = record { keeps = keeps_all s.names; budget = refl; parameters = tt; gained = []; appended = append_known-nil o; does = over_refuses {A = B} s.budget e s.variables s.attributes }

-- a variable got a value, and what comes after it
does_sets : {B : Type 0} (n : ℕ) (x : List ℕ) (d : Plain) (p : Process B) (vars vars' : Vars) (t : List ℕ) (a a' : Attributes) (r : Result B StepFault) → Does r n p (with_value x d vars) vars' t a a' → Does r n (sets x d p) vars vars' t a a'
does_sets n x d p vars vars' t a a' (Ok b) g = g
does_sets n x d p vars vars' t a a' (Err (Script e)) g = g
does_sets n x d p vars vars' t a a' (Err Write) g = inr g
does_sets n x d p vars vars' t a a' (Err Memory) g = inr g

-- a variable gets a value, and what comes after it
pub executed_sets : {B : Type 0} (x : List ℕ) (d : Plain) (p : Process B) (r : Result B StepFault) (s s1 s2 : State) (o o2 : Option (List ℕ)) → SameStore s s1 → s1.variables ≡ with_value x d s.variables
    → Executed r s1 s2 o o2 p → Executed r s s2 o o2 (sets x d p)
executed_sets x d p r s s1 s2 o o2 same vars g = record {
  keeps = subst (λ a. Keeps a s2.names) same.names g.keeps;
  budget = g.budget ∙ same.budget;
  parameters = g.parameters;
  gained = g.gained;
  appended = g.appended;
  does = does_sets s.budget x d p s.variables s2.variables g.gained s.attributes s2.attributes r
      (subst (λ a. Does r s.budget p (with_value x d s.variables) s2.variables g.gained a s2.attributes) same.attributes
      (does_as r s1.budget s.budget p s1.variables (with_value x d s.variables) s2.variables g.gained s1.attributes s2.attributes same.budget vars g.does));
}

-- a text was written, or a front of it
pub executed_writes : (text : List ℕ) (r : Result (Unit {0}) StepFault) (s : State) (o o' : Option (List ℕ)) → s.parameters ≡ [] → OnOk r (o' ≡ append_known o text) → AppendsFront o o' text → IfErr r IsOutside
    → Executed r s s o o' (writes text (gives tt))
executed_writes text (Ok u) s o o' none all front outside = record { keeps = keeps_all s.names; budget = refl; parameters = none; gained = text; appended = all; does = ([], ([], sym (append-nil text), (refl, refl, refl, refl)), refl) }
executed_writes text (Err (Script e)) s o o' none all front outside = absurd outside
executed_writes text (Err Write) s o o' none all front outside = record { keeps = keeps_all s.names; budget = refl; parameters = tt; gained = front.1.0; appended = front.1.2; does = inl (refl, front.0, front.1.1) }
executed_writes text (Err Memory) s o o' none all front outside = record { keeps = keeps_all s.names; budget = refl; parameters = tt; gained = front.1.0; appended = front.1.2; does = inl (refl, front.0, front.1.1) }

-- of two processes that are the same
pub executed_as : {B : Type 0} (p q : Process B) (r : Result B StepFault) (s s1 : State) (o o1 : Option (List ℕ)) → p ≡ q → Executed r s s1 o o1 p → Executed r s s1 o o1 q
executed_as p q r s s1 o o1 same h = subst (λ k. Executed r s s1 o o1 k) same h

-- outside of all arrows
pub at_top : {X A : Type 0} (view : Named → X → A) (known : Named → X → Type 0) (r : Result X CallFault) (s s1 : State) (p : Vars → Process A) → s.parameters ≡ [] → Evaluates view known r s s1 (λ names. p s.parameters)
    → Evaluates view known r s s1 (λ names. p [])
at_top view known r s s1 p none h = subst (λ qs. Evaluates view known r s s1 (λ names. p qs)) none h
