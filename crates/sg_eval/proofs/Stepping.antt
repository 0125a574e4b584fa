-- A step, from the piece that does its statement.
use Rattle.std.proofs.Common.{◌≡◌, ℕ, List, [], true, false, Option, Result, Ok, Err, IsErrAnd, refl, ap, sym, ◌∙◌, subst, append-nil}
use Rattle.std.proofs.lemmas.Result.{err_from_is_err_and}
use Rattle.std.specs.Io.KnownBytes.{append_known}
use Rattle.sg_tree.specs.Tree.{Code}
use Rattle.sg_eval.specs.declared.step_fault.Flow.{Flow}
use Rattle.sg_eval.specs.declared.step_fault.Flow.TheVariants.{On, Quit}
use Rattle.sg_eval.specs.declared.step_fault.StepFault.{StepFault}
use Rattle.sg_eval.specs.declared.step_fault.StepFault.TheVariants.{Script, Write, Memory}
use Rattle.sg_rows.specs.declared.fault.Fault.{Fault}
use Rattle.sg_meaning.specs.Process.{gives, ◌>>=◌, Breaks}
use Rattle.sg_eval.specs.Outcomes.{RunsOver}
use Rattle.sg_eval.specs.State.{State, SameStore}
use Rattle.sg_meaning.specs.Statements.{Going, on, ended, exec, whole}
use Rattle.sg_eval.specs.Steps.{Does, Executed, Executes, is_quit}
use Rattle.sg_eval.proofs.Blocks.{whole_on, whole_ended}
use Rattle.sg_eval.proofs.Executing.{append_known-nil}
use Rattle.sg_meaning.proofs.Runs.{breaks_in}
use Rattle.sg_eval.proofs.Over.{over_then, over_refused, over_gives}

module _ (c : Code) (s s0 : State) (store : SameStore s s0) (same : s0.variables ≡ s.variables) where
  runs_from : (end : Result Going Fault) (s1 : State) (gained : List ℕ) → RunsOver s0.budget (whole c) s0.variables end s1.variables gained s0.attributes s1.attributes → RunsOver s.budget (whole c) s.variables end s1.variables gained s.attributes s1.attributes
  runs_from end s1 gained h =
      subst (λ a. RunsOver s.budget (whole c) s.variables end s1.variables gained a s1.attributes) store.attributes
      (subst (λ n. RunsOver n (whole c) s.variables end s1.variables gained s0.attributes s1.attributes) store.budget
      (subst (λ vs. RunsOver s0.budget (whole c) vs end s1.variables gained s0.attributes s1.attributes) same h))

  breaks_from : (s1 : State) (gained : List ℕ) → Breaks s0.budget (whole c) s0.variables s1.variables gained → Breaks s.budget (whole c) s.variables s1.variables gained
  breaks_from s1 gained h = subst (λ n. Breaks n (whole c) s.variables s1.variables gained) store.budget (subst (λ vs. Breaks s0.budget (whole c) vs s1.variables gained) same h)

  -- what was executed once the parameters went was executed over the machine as it was
  from_start : (r : Result Flow StepFault) (s1 : State) (gained : List ℕ) → Executes r c s0 s1 gained → Executes r c s s1 gained
  from_start (Ok On) s1 gained h = runs_from (Ok on) s1 gained h
  from_start (Ok Quit) s1 gained h = runs_from (Ok ended) s1 gained h
  from_start (Err (Script e)) s1 gained h = runs_from (Err e) s1 gained h
  from_start (Err Write) s1 gained h = breaks_from s1 gained h
  from_start (Err Memory) s1 gained h = breaks_from s1 gained h

  -- the statement ends the run
  pub step_ended : (o : Option (List ℕ)) → is_quit c ≡ true → (gained : List ℕ) × (o ≡ append_known o gained) × Executes (Ok Quit) c s s0 gained
  step_ended o is = ([], append_known-nil o, from_start (Ok Quit) s0 [] (subst (λ p. RunsOver s0.budget p s0.variables (Ok ended) s0.variables [] s0.attributes s0.attributes) (whole_ended c is) (over_gives s0.budget ended ended s0.variables s0.attributes refl)))

  module _ (s1 : State) (o o1 : Option (List ℕ)) (is : is_quit c ≡ false) where
    -- the statement was done, and the run goes on
    pub step_on : Executed (Ok tt) s0 s1 o o1 (exec c) → (gained : List ℕ) × (o1 ≡ append_known o gained) × Executes (Ok On) c s s1 gained
    step_on h = (
      h.gained,
      h.appended,
      from_start (Ok On) s1 h.gained (subst (λ p. RunsOver s0.budget p s0.variables (Ok on) s1.variables h.gained s0.attributes s1.attributes) (whole_on c is)
          (subst (λ bs. RunsOver s0.budget (exec c >>= (λ u. gives on)) s0.variables (Ok on) s1.variables bs s0.attributes s1.attributes) (append-nil h.gained)
          (over_then s0.budget (exec c) (λ u. gives on) s0.variables s1.variables s1.variables tt (Ok on) h.gained [] s0.attributes s1.attributes s1.attributes h.does (over_gives s0.budget on on s1.variables s1.attributes refl)))),
    )

    refused : (e : StepFault) (gained : List ℕ) → Does {A = Unit {0}} (Err e) s0.budget (exec c) s0.variables s1.variables gained s0.attributes s1.attributes → Executes (Err e) c s0 s1 gained
    refused (Script d) gained h = subst (λ p. RunsOver s0.budget p s0.variables (Err d) s1.variables gained s0.attributes s1.attributes) (whole_on c is) (over_refused s0.budget (exec c) (λ u. gives on) s0.variables s1.variables d gained s0.attributes s1.attributes h)
    refused Write gained h = subst (λ p. Breaks s0.budget p s0.variables s1.variables gained) (whole_on c is) (breaks_in s0.budget (exec c) (λ u. gives on) s0.variables s1.variables gained h)
    refused Memory gained h = subst (λ p. Breaks s0.budget p s0.variables s1.variables gained) (whole_on c is) (breaks_in s0.budget (exec c) (λ u. gives on) s0.variables s1.variables gained h)

    -- the statement was refused, or left
    pub step_refused : (r : Result Flow StepFault) (e : StepFault) → IsErrAnd r (λ y. y ≡ e) → Executed {A = Unit {0}} (Err e) s0 s1 o o1 (exec c)
        → (gained : List ℕ) × (o1 ≡ append_known o gained) × Executes r c s s1 gained
    step_refused r e failed h =
        let q = err_from_is_err_and r failed in
        (h.gained, h.appended, subst (λ t. Executes t c s s1 h.gained) (sym (q.1 ∙ ap Err q.2)) (from_start (Err e) s1 h.gained (refused e h.gained h.does)))
