-- Pieces of a script with what they ask for, one after another.
use Rattle.std.proofs.Common.{◌≡◌, ℕ, List, [], ◌++◌, Result, Ok, Err, refl, ap, sym, ◌∙◌, append-nil}
use Rattle.sg_rows.specs.Asks.{Asking}
use Rattle.sg_rows.specs.Order.{Case, Reply, IsReply, AreAsked}
use Rattle.sg_rows.specs.declared.fault.CallFault.{CallFault}
use Rattle.sg_rows.specs.declared.fault.CallFault.TheVariants.{Script, Memory}
use Rattle.sg_rows.specs.declared.fault.Fault.{Fault}
use Rattle.sg_store.specs.Attributes.{Attributes}
use Rattle.sg_calls.specs.After.{after_asked, OnEnd, Asks}
use Rattle.sg_calls.proofs.AfterLemmas.{after_both}
use Rattle.sg_meaning.specs.Expressions.{ask}
use Rattle.sg_meaning.specs.Process.{Process, gives, refuses, ◌>>=◌, Runs}
use Rattle.sg_meaning.specs.Queries.{Query, IsAnswer}
use Rattle.sg_meaning.specs.Vars.{Vars}
use Rattle.sg_meaning.proofs.Runs.{runs_then, runs_refused}
use Rattle.sg_eval.specs.Outcomes.{RunsOver}

module _ {A B : Type 0} (n : ℕ) (p : Process A) (f : A → Process B) where
  -- a piece that ends well, and what comes after it
  pub over_then : (vars vars1 vars2 : Vars) (x : A) (end : Result B Fault) (t u : List ℕ) (a a1 a2 : Attributes) → RunsOver n p vars (Ok x) vars1 t a a1 → RunsOver n (f x) vars1 end vars2 u a1 a2
      → RunsOver n (p >>= f) vars end vars2 (t ++ u) a a2
  over_then vars vars1 vars2 x end t u a a1 a2 h g =
      (h.0 ++ g.0, runs_then n p f vars vars1 vars2 x end t u h.0 g.0 h.1 g.1, g.2 ∙ (ap (after_asked g.0) h.2 ∙ sym (after_both h.0 g.0 a)))

  -- a piece that is refused
  pub over_refused : (vars vars1 : Vars) (e : Fault) (t : List ℕ) (a a1 : Attributes) → RunsOver n p vars (Err e) vars1 t a a1 → RunsOver n (p >>= f) vars (Err e) vars1 t a a1
  over_refused vars vars1 e t a a1 h = (h.0, runs_refused n p f vars vars1 e t h.0 h.1, h.2)

-- it is there at once
pub over_gives : {A : Type 0} (n : ℕ) (x y : A) (vars : Vars) (a : Attributes) → x ≡ y → RunsOver n (gives y) vars (Ok x) vars [] a a
over_gives n x y vars a same = ([], (ap Ok same, refl, refl, refl), refl)

-- it is refused at once
pub over_refuses : {A : Type 0} (n : ℕ) (e : Fault) (vars : Vars) (a : Attributes) → RunsOver {A = A} n (refuses e) vars (Err e) vars [] a a
over_refuses n e vars a = ([], (refl, refl, refl, refl), refl)

asked_runs : (n : ℕ) (q : Query) (r : Reply) (vars : Vars) (asked : List Asking) → IsAnswer n q r asked → Runs n (ask q) vars r vars [] asked
asked_runs n q (Ok d) vars asked is = (Ok d, asked, [], is, sym (append-nil asked), (refl, refl, refl, refl))
asked_runs n q (Err e) vars asked is = (Err e, asked, [], is, sym (append-nil asked), (refl, refl, refl, refl))

-- an answer, and what was asked for on the way to it
pub over_asked : (n : ℕ) (q : Query) (r : Reply) (vars : Vars) (asked : List Asking) (a a' : Attributes) → IsAnswer n q r asked → a' ≡ after_asked asked a → RunsOver n (ask q) vars r vars [] a a'
over_asked n q r vars asked a a' is after = (asked, asked_runs n q r vars asked is, after)

-- an answer for which nothing was asked
pub over_told : (n : ℕ) (q : Query) (r : Reply) (vars : Vars) (a : Attributes) → IsAnswer n q r [] → RunsOver n (ask q) vars r vars [] a a
over_told n q r vars a is = over_asked n q r vars [] a a is refl

-- within these attributes a query is answered as the case replies, for what was asked by then
abbrev pub Answered : {X : Type 0} → Result X CallFault → ℕ → Query → Case → Attributes → Attributes → Type 0
Answered r n q c a a' = OnEnd r ((asked : List Asking) × ((t : Reply) → IsReply c t → IsAnswer n q t asked) × (a' ≡ after_asked asked a))

-- what a case asks for is what the query asks for
pub answered_asks : {X : Type 0} (r : Result X CallFault) (n : ℕ) (q : Query) (c : Case) (a a' : Attributes) → ((t : Reply) (asked : List Asking) → IsReply c t → AreAsked c asked → IsAnswer n q t asked) → Asks r c a a' → Answered r n q c a a'
answered_asks (Ok v) n q c a a' same h = (h.0, λ t is. same t h.0 is h.1, h.2)
answered_asks (Err (Script e)) n q c a a' same h = (h.0, λ t is. same t h.0 is h.1, h.2)
answered_asks (Err (Memory m)) n q c a a' same h = tt

-- a query that asks for nothing
pub answered_told : {X : Type 0} (r : Result X CallFault) (n : ℕ) (q : Query) (c : Case) (a : Attributes) → ((t : Reply) → IsReply c t → IsAnswer n q t []) → Answered r n q c a a
answered_told (Ok v) n q c a same = ([], same, refl)
answered_told (Err (Script e)) n q c a same = ([], same, refl)
answered_told (Err (Memory m)) n q c a same = tt
