-- What a step of the machine did.
use Rattle.std.specs.Prelude.{◌≡◌, ℕ, Bool, true, false, List, [], Option, Some, None, Result, Ok, Err, OnOk, if◌then◌else◌, ⊤}
use Rattle.sg_value.specs.Plain.{Things}
use Rattle.std.specs.Io.KnownBytes.{append_known}
use Rattle.sg_value.specs.Data.{Items}
use Rattle.sg_rows.specs.Kinds.{as_list}
use Rattle.sg_calls.specs.Commands.{word_named}
use Rattle.sg_tree.specs.Tree.{Tree, number, quoted, truth, failing, variable, call, display, span, minus, negation, chain, compare, item as item_tree, Arguments, Code, nothing, quit, assign, choose, each, perform, Arms, no_arms, arm}
use Rattle.sg_store.specs.Interned.{Keeps}
use Rattle.sg_store.specs.Attributes.{Attributes}
use Rattle.sg_rows.specs.declared.fault.CallFault.{CallFault}
use Rattle.sg_rows.specs.declared.fault.CallFault.TheVariants as call_fault
use Rattle.sg_eval.specs.declared.step_fault.Flow.{Flow}
use Rattle.sg_eval.specs.declared.step_fault.Flow.TheVariants.{On, Quit}
use Rattle.sg_eval.specs.declared.step_fault.StepFault.{StepFault}
use Rattle.sg_eval.specs.declared.step_fault.StepFault.TheVariants.{Script, Write, Memory}
use Rattle.sg_meaning.specs.Expressions.{eval, eval_given, decided, listed}
use Rattle.sg_meaning.specs.Process.{Process, gives, ◌>>=◌, Breaks}
use Rattle.sg_eval.specs.Outcomes.{RunsOver}
use Rattle.sg_eval.specs.State.{State}
use Rattle.sg_meaning.specs.Statements.{on, ended, whole, exec_all, is_print, printed}
use Rattle.sg_meaning.specs.Vars.{Vars}

-- a step over a statement, from this state to that: it ended, with this text, and what it asked for was asked, or it was
-- left at some point, after which nothing is said of what was asked
abbrev pub Executes : Result Flow StepFault → Code → State → State → List ℕ → Type 0
Executes (Ok On) c s s' bs = RunsOver s.budget (whole c) s.variables (Ok on) s'.variables bs s.attributes s'.attributes
Executes (Ok Quit) c s s' bs = RunsOver s.budget (whole c) s.variables (Ok ended) s'.variables bs s.attributes s'.attributes
Executes (Err (Script e)) c s s' bs = RunsOver s.budget (whole c) s.variables (Err e) s'.variables bs s.attributes s'.attributes
Executes (Err Write) c s s' bs = Breaks s.budget (whole c) s.variables s'.variables bs
Executes (Err Memory) c s s' bs = Breaks s.budget (whole c) s.variables s'.variables bs

-- the same for a piece of a statement
abbrev pub Does : {A : Type 0} → Result A StepFault → ℕ → Process A → Vars → Vars → List ℕ → Attributes → Attributes → Type 0
Does (Ok x) n p vars vars' bs a a' = RunsOver n p vars (Ok x) vars' bs a a'
Does (Err (Script e)) n p vars vars' bs a a' = RunsOver n p vars (Err e) vars' bs a a'
Does (Err Write) n p vars vars' bs a a' = Breaks n p vars vars' bs
Does (Err Memory) n p vars vars' bs a a' = Breaks n p vars vars' bs

-- a call over a machine and a sink did what the process does; known semigroups and ideals and the budget stayed, and no
-- parameter
pub record Executed {A : Type 0} (r : Result A StepFault) (old new : State) (taken taken' : Option (List ℕ)) (p : Process A) : Type 0 where
  pub keeps : Keeps old.names new.names
  pub budget : new.budget ≡ old.budget
  pub parameters : OnOk r (new.parameters ≡ [])
  pub gained : List ℕ
  pub appended : taken' ≡ append_known taken gained
  pub does : Does r old.budget p old.variables new.variables gained old.attributes new.attributes

-- the same fault, of a step
abbrev pub step_fault : CallFault → StepFault
step_fault (call_fault.Script e) = Script e
step_fault (call_fault.Memory m) = Memory

-- the statement that ends a run
abbrev pub is_quit : Code → Bool
is_quit quit = true
is_quit nothing = false
is_quit (assign x t) = false
is_quit (choose guarded other) = false
is_quit (each x t body) = false
is_quit (perform t) = false

-- the block of the first arm whose condition is true; it says whether there was one
abbrev pub arm_done : Arms → Process Bool
arm_done no_arms = gives false
arm_done (arm t body others) = eval [] t >>= (λ d. decided d (λ b. if b then exec_all body >>= (λ u. gives true) else arm_done others))

-- a call of Print with its arguments, if the expression is one
abbrev pub printing : Bool → Arguments → Option Arguments
printing true args = Some args
printing false args = None

abbrev pub printed_arguments : Tree → Option Arguments
printed_arguments (call name args) = printing (is_print (word_named name)) args
printed_arguments (number z) = None
printed_arguments (quoted bs) = None
printed_arguments (truth b) = None
printed_arguments failing = None
printed_arguments (variable x) = None
printed_arguments (display ts) = None
printed_arguments (span low high) = None
printed_arguments (item_tree t places) = None
printed_arguments (minus n t) = None
printed_arguments (negation n t) = None
printed_arguments (chain t ls) = None
printed_arguments (compare r left right) = None

-- a call of Print
abbrev pub print_done : Arguments → Process (Unit {0})
print_done args = eval_given [] args >>= printed

-- the condition of an arm, and the list of a loop
abbrev pub held : Vars → Tree → Process Bool
held env t = eval env t >>= (λ d. decided d (λ b. gives b))

abbrev pub listed_of : Vars → Tree → Process (Items Things)
listed_of env t = eval env t >>= (λ d. listed (as_list d) (λ ds. gives ds))

-- no fault of the script
abbrev pub IsOutside : StepFault → Type 0
IsOutside (Script e) = ⊥
IsOutside Write = ⊤
IsOutside Memory = ⊤

-- no fault of the sink
abbrev pub IsInside : StepFault → Type 0
IsInside (Script e) = ⊤
IsInside Write = ⊥
IsInside Memory = ⊤
