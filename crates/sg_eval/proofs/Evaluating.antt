-- What a call over a machine gives, after what another gave.
use Rattle.std.proofs.Common.{◌≡◌, ℕ, List, [], Result, Ok, Err, OnOk, IfOk, IsErrAnd, refl, ap, sym, ◌∙◌, subst}
use Rattle.sg_value.specs.Known.{Known, named}
use Rattle.std.specs.declared.alloc.AllocError.{AllocError}
use Rattle.std.proofs.Math.Path.{fun_ext}
use Rattle.std.proofs.lemmas.Result.{err_from_is_err_and}
use Rattle.sg_value.specs.Data.{Items, list, Kind}
use Rattle.sg_value.specs.Plain.{Named, AllKnown, AllKnownIn, contents, contents_of_all, plain, plain_of_all}
use Rattle.sg_value.specs.declared.value.Value.{Value}
use Rattle.sg_store.specs.Interned.{Keeps}
use Rattle.sg_rows.specs.declared.fault.CallFault.{CallFault}
use Rattle.sg_rows.specs.declared.fault.CallFault.TheVariants.{Script, Memory}
use Rattle.sg_store.specs.Attributes.{Attributes}
use Rattle.sg_calls.specs.After.{Asks}
use Rattle.sg_rows.specs.Asks.{Asking}
use Rattle.sg_meaning.specs.Process.{Process, gives, ◌>>=◌}
use Rattle.sg_eval.specs.Outcomes.{RunsOver, Gives, Evaluates}
use Rattle.sg_value.proofs.OneStore.{data_map-kept}
use Rattle.sg_rows.specs.Order.{Reply, Case, IsReply, AreAsked}
use Rattle.sg_rows.specs.Replies.{Replies}
use Rattle.sg_meaning.specs.Queries.{Query, IsAnswer}
use Rattle.sg_meaning.specs.Expressions.{ask}
use Rattle.sg_eval.specs.State.{State, SameStore}
use Rattle.sg_meaning.specs.Vars.{Vars}
use Rattle.sg_eval.proofs.Over.{over_then, over_refused, over_gives, over_asked, Answered, answered_asks, answered_told}

-- what two stores in a row keep
pub keeps_then : (a b c : Known) → Keeps a b → Keeps b c → Keeps a c
keeps_then a b c h g = λ k i thing is. g k i thing (h k i thing is)

-- a store keeps itself
pub keeps_all : (a : Known) → Keeps a a
keeps_all a = λ k i thing is. is

gives_then : {Y A B : Type 0} (view : Y → B) (n : ℕ) (p : Process A) (f : A → Process B) (vars : Vars) (x : A) (r : Result Y CallFault) (a a1 a2 : Attributes)
    → RunsOver n p vars (Ok x) vars [] a a1 → Gives view r n (f x) vars a1 a2 → Gives view r n (p >>= f) vars a a2
gives_then view n p f vars x (Ok y) a a1 a2 h g = over_then n p f vars vars vars x (Ok (view y)) [] [] a a1 a2 h g
gives_then view n p f vars x (Err (Script e)) a a1 a2 h g = over_then n p f vars vars vars x (Err e) [] [] a a1 a2 h g
gives_then view n p f vars x (Err (Memory m)) a a1 a2 h g = tt

-- the same budget and the same variables
pub gives_as : {Y B : Type 0} (view : Y → B) (r : Result Y CallFault) (m n : ℕ) (p : Process B) (vs ws : Vars) (a a' : Attributes) → m ≡ n → vs ≡ ws → Gives view r m p vs a a' → Gives view r n p ws a a'
gives_as view r m n p vs ws a a' budget vars g = subst (λ k. Gives view r k p ws a a') budget (subst (λ us. Gives view r m p us a a') vars g)

-- the end of the parameters
end_parameters : {Y : Type 0} (r : Result Y CallFault) (a b c : Vars) → b ≡ a → OnOk r (c ≡ b) → OnOk r (c ≡ a)
end_parameters (Ok y) a b c is h = h ∙ is
end_parameters (Err e) a b c is h = tt

-- a call gave a value, and the next call gives what comes of it
pub evaluates_then : {X Y A B : Type 0} (view : Named → X → A) (known : Named → X → Type 0) (view' : Named → Y → B) (known' : Named → Y → Type 0)
    (x : X) (r : Result Y CallFault) (s s1 s2 : State) (p : Named → Process A) (f : Named → A → Process B)
    → Evaluates view known (Ok x) s s1 p → Evaluates view' known' r s1 s2 (λ names. f names (view names x)) → Evaluates view' known' r s s2 (λ names. p names >>= f names)
evaluates_then view known view' known' x r s s1 s2 p f h g = record {
  keeps = keeps_then s.names s1.names s2.names h.keeps g.keeps;
  variables = g.variables ∙ h.variables;
  budget = g.budget ∙ h.budget;
  parameters = end_parameters r s.parameters s1.parameters s2.parameters h.parameters g.parameters;
  is_known = g.is_known;
  gives = λ final later. gives_then (view' (named final)) s.budget (p (named final)) (f (named final)) s.variables (view (named final) x) r s.attributes s1.attributes s2.attributes
      (h.gives final (keeps_then s1.names s2.names final g.keeps later))
      (gives_as (view' (named final)) r s1.budget s.budget (f (named final) (view (named final) x)) s1.variables s.variables s1.attributes s2.attributes h.budget h.variables (g.gives final later));
}

gives_refused : {X Y A B : Type 0} (view : X → A) (view' : Y → B) (n : ℕ) (p : Process A) (f : A → Process B) (vars : Vars) (e : CallFault) (a a' : Attributes) → Gives view (Err e) n p vars a a' → Gives view' (Err e) n (p >>= f) vars a a'
gives_refused view view' n p f vars (Script e) a a' g = over_refused n p f vars vars e [] a a' g
gives_refused view view' n p f vars (Memory m) a a' g = tt

-- a call was refused, and with it the whole
pub evaluates_exit : {X Y A B : Type 0} (view : Named → X → A) (known : Named → X → Type 0) (view' : Named → Y → B) (known' : Named → Y → Type 0)
    (r : Result Y CallFault) (e : CallFault) (s s1 : State) (p : Named → Process A) (f : Named → A → Process B)
    → IsErrAnd r (λ y. y ≡ e) → Evaluates view known (Err e) s s1 p → Evaluates view' known' r s s1 (λ names. p names >>= f names)
evaluates_exit {X} {Y} {A} {B} view known view' known' r e s s1 p f failed h =
    let q = err_from_is_err_and r failed in
    subst (λ t. Evaluates view' known' t s s1 (λ names. p names >>= f names)) (sym (q.1 ∙ ap Err q.2))
    (record {
      keeps = h.keeps;
      variables = h.variables;
      budget = h.budget;
      parameters = tt;
      is_known = tt;
      gives = λ final later. gives_refused (view (named final)) (view' (named final)) s.budget (p (named final)) (f (named final)) s.variables e s.attributes s1.attributes (h.gives final later);
    })

-- memory ran out
pub evaluates_memory : {Y B : Type 0} (view : Named → Y → B) (known : Named → Y → Type 0) (r : Result Y CallFault) (m : AllocError) (s s1 : State) (p : Named → Process B)
    → Keeps s.names s1.names → s1.variables ≡ s.variables → s1.budget ≡ s.budget → IsErrAnd r (λ y. y ≡ Memory m) → Evaluates view known r s s1 p
evaluates_memory view known r m s s1 p keeps same budget failed =
    let q = err_from_is_err_and r failed in
    subst (λ t. Evaluates view known t s s1 p) (sym (q.1 ∙ ap Err q.2)) (record { keeps = keeps; variables = same; budget = budget; parameters = tt; is_known = tt; gives = λ final later. tt })

-- a value that is there at once
pub evaluates_gives : {Y B : Type 0} (view : Named → Y → B) (known : Named → Y → Type 0) (y : Y) (s : State) (b : Named → B) → known (named s.names) y
    → ((final : Known) → Keeps s.names final → view (named final) y ≡ b (named final)) → Evaluates view known (Ok y) s s (λ names. gives (b names))
evaluates_gives view known y s b is same = record {
  keeps = keeps_all s.names;
  variables = refl;
  budget = refl;
  parameters = refl;
  is_known = is;
  gives = λ final later. over_gives s.budget (view (named final) y) (b (named final)) s.variables s.attributes (same final later);
}

-- the data of a value, over a later store
pub known_later : (a b : Known) (v : Value) → Keeps a b → AllKnown (named a) v → AllKnown (named b) v
known_later a b v kept known = (data_map-kept (named a) (named b) kept (contents v) known).0

-- the plain value over a later store
pub plain_later : (a b : Known) (v : Value) → Keeps a b → AllKnown (named a) v → plain (named b) v ≡ plain (named a) v
plain_later a b v kept known = (data_map-kept (named a) (named b) kept (contents v) known).1

-- values that are known stay known
pub all_known_later : (a b : Known) (vs : List Value) → Keeps a b → AllKnownIn (named a) vs → AllKnownIn (named b) vs
all_known_later a b vs kept known = (data_map-kept (named a) (named b) kept (list (contents_of_all vs)) known).0

list_injective : {H : Kind → Type 0} (ds es : Items H) → list ds ≡ list es → ds ≡ es
list_injective ds es h = cc

-- the plain values over a later store
pub plain_of_all_later : (a b : Known) (vs : List Value) → Keeps a b → AllKnownIn (named a) vs → plain_of_all (named b) vs ≡ plain_of_all (named a) vs
plain_of_all_later a b vs kept known =
    list_injective (plain_of_all (named b) vs) (plain_of_all (named a) vs) (data_map-kept (named a) (named b) kept (list (contents_of_all vs)) known).1

-- what a row replied is what the query gives
reply_gives : (new final : Known) (r : Result Value CallFault) (n : ℕ) (c : Case) (q : Query) (vars : Vars) (a a' : Attributes) → Answered r n q c a a' → Replies r new c → Keeps new final
    → Gives (plain (named final)) r n (ask q) vars a a'
reply_gives new final (Ok v) n c q vars a a' same h later =
    subst (λ d. RunsOver n (ask q) vars (Ok d) vars [] a a') (sym (plain_later new final v later h.1)) (over_asked n q (Ok (plain (named new) v)) vars same.0 a a' (same.1 (Ok (plain (named new) v)) h.0) same.2)
reply_gives new final (Err (Script e)) n c q vars a a' same h later = over_asked n q (Err e) vars same.0 a a' (same.1 (Err e) h) same.2
reply_gives new final (Err (Memory m)) n c q vars a a' same h later = tt

reply_known : (new : Known) (r : Result Value CallFault) (c : Case) → Replies r new c → IfOk r (AllKnown (named new))
reply_known new (Ok v) c h = h.1
reply_known new (Err (Script e)) c h = tt
reply_known new (Err (Memory m)) c h = tt

parameters_stay : {Y : Type 0} (r : Result Y CallFault) (a b : Vars) → b ≡ a → OnOk r (b ≡ a)
parameters_stay (Ok y) a b is = is
parameters_stay (Err e) a b is = tt

-- a row replied to a query, and what it asks for was asked
pub evaluates_reply : (r : Result Value CallFault) (s s1 : State) (c : Case) (q : Named → Query) → Keeps s.names s1.names → s1.variables ≡ s.variables → s1.budget ≡ s.budget → s1.parameters ≡ s.parameters
    → ((final : Known) → Keeps s1.names final → (t : Reply) (asked : List Asking) → IsReply c t → AreAsked c asked → IsAnswer s.budget (q (named final)) t asked)
    → Asks r c s.attributes s1.attributes → Replies r s1.names c → Evaluates plain AllKnown r s s1 (λ names. ask (q names))
evaluates_reply r s s1 c q keeps variables budget parameters same asks h = record {
  keeps = keeps;
  variables = variables;
  budget = budget;
  parameters = parameters_stay r s.parameters s1.parameters parameters;
  is_known = reply_known s1.names r c h;
  gives = λ final later.
      reply_gives s1.names final r s.budget c (q (named final)) s.variables s.attributes s1.attributes (answered_asks r s.budget (q (named final)) c s.attributes s1.attributes (same final later) asks) h later;
}

-- a row replied to a query that asks for nothing
pub evaluates_told : (r : Result Value CallFault) (s : State) (c : Case) (q : Named → Query) → ((final : Known) → Keeps s.names final → (t : Reply) → IsReply c t → IsAnswer s.budget (q (named final)) t [])
    → Replies r s.names c → Evaluates plain AllKnown r s s (λ names. ask (q names))
evaluates_told r s c q same h = record {
  keeps = keeps_all s.names;
  variables = refl;
  budget = refl;
  parameters = parameters_stay r s.parameters s.parameters refl;
  is_known = reply_known s.names r c h;
  gives = λ final later. reply_gives s.names final r s.budget c (q (named final)) s.variables s.attributes s.attributes (answered_told r s.budget (q (named final)) c s.attributes (same final later)) h later;
}

-- of two processes that are the same, over each store
pub evaluates_as : {Y B : Type 0} (view : Named → Y → B) (known : Named → Y → Type 0) (r : Result Y CallFault) (s s1 : State) (p q : Named → Process B) → ((names : Named) → p names ≡ q names)
    → Evaluates view known r s s1 p → Evaluates view known r s s1 q
evaluates_as view known r s s1 p q same h = subst (λ k. Evaluates view known r s s1 k) (fun_ext same) h

-- a call gave a value, and the next call, which sees the same parameters, gives what comes of it
pub evaluates_on : {X Y A B : Type 0} (view : Named → X → A) (known : Named → X → Type 0) (view' : Named → Y → B) (known' : Named → Y → Type 0)
    (x : X) (r : Result Y CallFault) (s s1 s2 : State) (p : Named → Process A) (f : Vars → Named → A → Process B)
    → Evaluates view known (Ok x) s s1 p → Evaluates view' known' r s1 s2 (λ names. f s1.parameters names (view names x)) → Evaluates view' known' r s s2 (λ names. p names >>= f s.parameters names)
evaluates_on view known view' known' x r s s1 s2 p f h g =
    evaluates_then view known view' known' x r s s1 s2 p (f s.parameters) h (subst (λ ps. Evaluates view' known' r s1 s2 (λ names. f ps names (view names x))) h.parameters g)

-- of two processes that are the same over each later store
pub evaluates_later : {Y B : Type 0} (view : Named → Y → B) (known : Named → Y → Type 0) (r : Result Y CallFault) (s s1 : State) (p q : Named → Process B)
    → ((final : Known) → Keeps s.names final → p (named final) ≡ q (named final)) → Evaluates view known r s s1 p → Evaluates view known r s s1 q
evaluates_later view known r s s1 p q same h = record {
  keeps = h.keeps;
  variables = h.variables;
  budget = h.budget;
  parameters = h.parameters;
  is_known = h.is_known;
  gives = λ final later. subst (λ k. Gives (view (named final)) r s.budget k s.variables s.attributes s1.attributes) (same final (keeps_then s.names s1.names final h.keeps later)) (h.gives final later);
}

-- after a parameter came in, a call gives what it gives over the machine as it was
gives_bound : {Y B : Type 0} (view : Y → B) (r : Result Y CallFault) (s s1 : State) (p : Process B) (a' : Attributes) → SameStore s s1 → s1.variables ≡ s.variables → Gives view r s1.budget p s1.variables s1.attributes a'
    → Gives view r s.budget p s.variables s.attributes a'
gives_bound view r s s1 p a' same vars g =
    subst (λ a. Gives view r s.budget p s.variables a a') same.attributes (gives_as view r s1.budget s.budget p s1.variables s.variables s1.attributes a' same.budget vars g)

-- a call between the coming and the going of a parameter
pub evaluates_bound : {Y B : Type 0} (view : Named → Y → B) (known : Named → Y → Type 0) (y : Y) (s s1 s2 s3 : State) (p : Named → Process B)
    → SameStore s s1 → s1.variables ≡ s.variables → Evaluates view known (Ok y) s1 s2 p → SameStore s2 s3 → s3.variables ≡ s2.variables → s3.parameters ≡ s.parameters → Evaluates view known (Ok y) s s3 p
evaluates_bound view known y s s1 s2 s3 p same1 vars1 h same3 vars3 params3 = record {
  keeps = subst (λ a. Keeps a s3.names) same1.names (subst (Keeps s1.names) (sym same3.names) h.keeps);
  variables = vars3 ∙ (h.variables ∙ vars1);
  budget = same3.budget ∙ (h.budget ∙ same1.budget);
  parameters = params3;
  is_known = subst (λ a. known (named a) y) (sym same3.names) h.is_known;
  gives = λ final later.
      subst (Gives (view (named final)) (Ok y) s.budget (p (named final)) s.variables s.attributes) (sym same3.attributes)
      (gives_bound (view (named final)) (Ok y) s s1 (p (named final)) s2.attributes same1 vars1 (h.gives final (subst (λ a. Keeps a final) same3.names later)));
}

-- the same where the call was refused, and the parameter may stay
pub evaluates_bound_exit : {X Y B : Type 0} (view : Named → X → B) (known : Named → X → Type 0) (view' : Named → Y → B) (known' : Named → Y → Type 0) (r : Result Y CallFault) (e : CallFault) (s s1 s2 : State) (p : Named → Process B)
    → SameStore s s1 → s1.variables ≡ s.variables → IsErrAnd r (λ y. y ≡ e) → Evaluates view known (Err e) s1 s2 p → Evaluates view' known' r s s2 p
evaluates_bound_exit {X} {Y} {B} view known view' known' r e s s1 s2 p same1 vars1 failed h =
    let q = err_from_is_err_and r failed in
    subst (λ t. Evaluates view' known' t s s2 p) (sym (q.1 ∙ ap Err q.2))
    (record {
      keeps = subst (λ a. Keeps a s2.names) same1.names h.keeps;
      variables = h.variables ∙ vars1;
      budget = h.budget ∙ same1.budget;
      parameters = tt;
      is_known = tt;
      gives = λ final later. gives_bound (view' (named final)) (Err e) s s1 (p (named final)) s2.attributes same1 vars1
          (refused_alike (view (named final)) (view' (named final)) e s1.budget (p (named final)) s1.variables s1.attributes s2.attributes (h.gives final later));
    })
  where
    refused_alike : {X Y B : Type 0} (view : X → B) (view' : Y → B) (e : CallFault) (n : ℕ) (p : Process B) (vars : Vars) (a a' : Attributes) → Gives view (Err e) n p vars a a' → Gives view' (Err e) n p vars a a'
    refused_alike view view' (Script d) n p vars a a' g = g
    refused_alike view view' (Memory m) n p vars a a' g = tt
