-- What calls gave and did.
use Rattle.std.specs.Prelude.{◌≡◌, ℕ, List, [], Result, Ok, Err, IfOk, OnOk, Vec, ⊤}
use Rattle.sg_value.specs.Known.{Known, named}
use Rattle.std.specs.Borrow.{Bor}
use Rattle.std.specs.Global.{Global}
use Rattle.sg_value.specs.Data.{Items, items_map, EachThingOfAll}
use Rattle.sg_value.specs.declared.value.Value.{Value}
use Rattle.sg_value.specs.Plain.{Named, AllKnown, AllKnownIn, IsKnown, plain, plain_of_all, thing_at, Entries, Things}
use Rattle.sg_store.specs.Interned.{Keeps}
use Rattle.sg_store.specs.Attributes.{Attributes}
use Rattle.sg_rows.specs.Asks.{Asking}
use Rattle.sg_rows.specs.declared.fault.Fault.{Fault}
use Rattle.sg_rows.specs.declared.fault.CallFault.{CallFault}
use Rattle.sg_rows.specs.declared.fault.CallFault.TheVariants.{Script, Memory}
use Rattle.sg_rows.specs.Order.{Plain}
use Rattle.sg_calls.specs.After.{after_asked}
use Rattle.sg_meaning.specs.Process.{Process, Runs}
use Rattle.sg_eval.specs.State.{State}
use Rattle.sg_meaning.specs.Vars.{Vars}

-- values by their plain values
abbrev pub plain_in : Named → Vec Value Global → Items Things
plain_in names vs = plain_of_all names vs.items

abbrev pub known_in : Named → Vec Value Global → Type 0
known_in names vs = AllKnownIn names vs.items

-- the entries of a list by their plain values
abbrev pub plain_items : Named → Entries → Items Things
plain_items names ds = items_map (thing_at names) ds

abbrev pub known_items : Named → Entries → Type 0
known_items names ds = EachThingOfAll (IsKnown names) ds

-- a value where it stands
abbrev pub plain_of : Named → Bor Value → Plain
plain_of names v = plain names v.now

abbrev pub known_of : Named → Bor Value → Type 0
known_of names v = AllKnown names v.now

-- within this budget a process ends so, from these variables, with these and this text, and all that it asks for was
-- asked of these attributes, in its order, and nothing else
abbrev pub RunsOver : {A : Type 0} → ℕ → Process A → Vars → Result A Fault → Vars → List ℕ → Attributes → Attributes → Type 0
RunsOver n p vars end vars' bs a a' = (asked : List Asking) × Runs n p vars end vars' bs asked × (a' ≡ after_asked asked a)

-- a call gave what the process gives, which changes no variable and writes nothing
abbrev pub Gives : {X A : Type 0} → (X → A) → Result X CallFault → ℕ → Process A → Vars → Attributes → Attributes → Type 0
Gives view (Ok x) n p vars a a' = RunsOver n p vars (Ok (view x)) vars [] a a'
Gives view (Err (Script e)) n p vars a a' = RunsOver n p vars (Err e) vars [] a a'
Gives view (Err (Memory m)) n p vars a a' = ⊤

-- a call over a machine gave what the process gives, also over each later store; its value is known, and known
-- semigroups, variables, parameters and the budget stayed
pub record Evaluates {X A : Type 0} (view : Named → X → A) (known : Named → X → Type 0) (r : Result X CallFault) (old new : State) (p : Named → Process A) : Type 0 where
  pub keeps : Keeps old.names new.names
  pub variables : new.variables ≡ old.variables
  pub budget : new.budget ≡ old.budget
  pub parameters : OnOk r (new.parameters ≡ old.parameters)
  pub is_known : IfOk r (known (named new.names))
  pub gives : (final : Known) → Keeps new.names final → Gives (view (named final)) r old.budget (p (named final)) old.variables old.attributes new.attributes

-- a call found the value of a name, over this machine, or gave what the process gives
abbrev pub Finds : Result (Unit {0}) CallFault → State → (Named → Process Plain) → Type 0
Finds (Ok u) s p = (v : Value) × Evaluates plain AllKnown (Ok v) s s p
Finds (Err e) s p = Evaluates plain AllKnown (Err e) s s p
