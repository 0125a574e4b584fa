-- What a statement comes to, by what was executed and written.
use Rattle.std.proofs.Common.{◌≡◌, ℕ, List, [], ◌∷◌, ◌++◌, Bool, true, false, Result, Ok, Err, refl, sym, ap, subst, ◌∙◌, inl, inr, append_assoc}
use Rattle.std.specs.Prelude.{◌⊎◌}
use Rattle.std.proofs.lemmas.List.{append-nil}
use Rattle.sg_rows.specs.Asks.{Asking}
use Rattle.sg_rows.specs.declared.fault.Fault.{Fault}
use Rattle.sg_tree.specs.Tree.{Code}
use Rattle.sg_script.specs.Outcome.{Outcome, a_tree, IsReadAs}
use Rattle.sg_meaning.specs.Statements.{on, ended}
use Rattle.sg_calls.specs.After.{after_asked}
use Rattle.sg_eval.specs.declared.step_fault.Flow.{Flow}
use Rattle.sg_eval.specs.declared.step_fault.Flow.TheVariants as flow
use Rattle.sg_eval.specs.declared.step_fault.StepFault.{StepFault}
use Rattle.sg_eval.specs.declared.step_fault.StepFault.TheVariants as step
use Rattle.sg_eval.specs.State.{State as Machine}
use Rattle.sg_eval.specs.Steps.{Executes}
use Rattle.sg_play.specs.FaultLines.{fault_line}
use Rattle.sg_play.specs.Record.{Record, Refusal, marked, out, err, done, refused}
use Rattle.sg_play.proofs.Leaving.{marked-append}
use Rattle.sgps_cli.specs.Passed.{with_one, end_of, refusal_of}
use Rattle.sgps_cli.specs.Playing.{Asked, Executed, Acts, IsLeftIn, IsPart, IsRefused, ComesTo, goes_on}
use Rattle.sgps_cli.specs.Playing.{Acts as acts}
use Rattle.sgps_cli.specs.Playing.{IsPart as part}
use Rattle.sgps_cli.specs.declared.passed.Passed.{Passed}
use Rattle.sgps_cli.specs.declared.play.Turn.TheVariants as turn
use Rattle.sgps_cli.specs.declared.ending.Cause.{Cause}
use Rattle.sgps_cli.specs.declared.ending.Cause.TheVariants as cause

-- what a step did, of the text that its statement was read from
pub executed-of : (text : List ℕ) (s s' : Machine) (printed : List ℕ) (r : Result Flow StepFault) (c : Code) → IsReadAs text (a_tree c) → Executes r c s s' printed → Executed r text s s' printed
executed-of text s s' printed (Ok flow.On) c read e = (c, read, e)
executed-of text s s' printed (Ok flow.Quit) c read e = (c, read, e)
executed-of text s s' printed (Err (step.Script f)) c read e = (a_tree c, read, e.0, (λ keep place line. (Err f, s'.variables, printed, e.0, e.1, refl)), e.2)
executed-of text s s' printed (Err step.Write) c read e = inl (c, read, e)
executed-of text s s' printed (Err step.Memory) c read e = inl (c, read, e)

-- a text that is refused asks for nothing
pub unread : (text : List ℕ) (s : Machine) (o : Outcome) (f : Fault) → IsReadAs text o → IsRefused o f [] [] s s → Executed (Err (step.Script f)) text s s []
unread text s o f read e = (o, read, [], e, refl)

module _ (text : List ℕ) (line : ℕ) (passed : Passed) (s s' : Machine) (printed : List ℕ) (same : s'.budget ≡ s.budget) where
  -- what was kept of what was asked for
  kept-so : (asked : List Asking) → s'.attributes ≡ after_asked asked s.attributes → Asked asked s s'
  kept-so asked e = record { kept = e; budget = same }

  -- a statement was executed
  pub acts-on : (keep : Bool) (r : Result Flow StepFault) → r ≡ Ok flow.On → Executed r text s s' printed → Acts keep text line passed s s' (marked out printed) (turn.Goes passed)
  acts-on keep r is e =
      let k : Executed (Ok flow.On) text s s' printed = subst (λ x. Executed x text s s' printed) is e in
      acts.goes k.2.0 [] (a_tree k.0, k.1, λ place. (Ok on, s'.variables, printed, k.2.0, k.2.1, refl)) (kept-so k.2.0 k.2.2) (inl (refl, refl))

  -- `quit;` was
  pub acts-quit : (keep : Bool) (r : Result Flow StepFault) (c : Cause) → r ≡ Ok flow.Quit → c ≡ end_of passed → Executed r text s s' printed → Acts keep text line passed s s' (marked out printed) (turn.Stops c)
  acts-quit keep r c is f e =
      let k : Executed (Ok flow.Quit) text s s' printed = subst (λ x. Executed x text s s' printed) is e in
      acts.stops k.2.0 done (a_tree k.0, k.1, λ place. (Ok ended, s'.variables, printed, k.2.0, k.2.1, refl)) (kept-so k.2.0 k.2.2) (inl (refl, f))

  -- a statement was refused, and ends the play
  pub acts-refused : (keep : Bool) (r : Result Flow StepFault) (f : Fault) (c : Cause) → keep ≡ false → r ≡ Err (step.Script f) → c ≡ refusal_of f line → Executed r text s s' printed →
      Acts keep text line passed s s' (marked out printed) (turn.Stops c)
  acts-refused keep r f c unkept is g e =
      let k : Executed (Err (step.Script f)) text s s' printed = subst (λ x. Executed x text s s' printed) is e in
      subst (λ b. Acts b text line passed s s' (marked out printed) (turn.Stops c)) (sym unkept)
      (acts.stops k.2 (refused f line) (k.0, k.1, λ place. k.3 false place line) (kept-so k.2 k.4) (inr (f, refl, g)))

  -- a statement was refused, and is passed
  passes-by : (r : Result Flow StepFault) (f : Fault) → r ≡ Err (step.Script f) → Executed r text s s' printed →
      (asked : List Asking) × ComesTo s.budget true text line s.variables (goes_on (marked out printed ++ marked err (fault_line f line)) asked ((f, line) ∷ []) s'.variables) × Asked asked s s'
  passes-by r f is e =
      let k : Executed (Err (step.Script f)) text s s' printed = subst (λ x. Executed x text s s' printed) is e in
      (k.2, (k.0, k.1, λ place. k.3 true place line), kept-so k.2 k.4)

  pub acts-passed : (keep : Bool) (r : Result Flow StepFault) (f : Fault) (now : Passed) → keep ≡ true → r ≡ Err (step.Script f) → now ≡ with_one passed line → Executed r text s s' printed →
      Acts keep text line passed s s' (marked out printed ++ marked err (fault_line f line)) (turn.Goes now)
  acts-passed keep r f now kept is g e =
      let p = passes-by r f is e in
      subst (λ b. Acts b text line passed s s' (marked out printed ++ marked err (fault_line f line)) (turn.Goes now)) (sym kept)
      (acts.goes p.0 ((f, line) ∷ []) p.1 p.2 (inr (f, refl, g)))

  -- a front of its line was written
  pub acts-told : (keep : Bool) (r : Result Flow StepFault) (f : Fault) (c : Cause) (said rest : List ℕ) → keep ≡ true → r ≡ Err (step.Script f) → fault_line f line ≡ said ++ rest →
      (c ≡ cause.WriteFault) ⊎ (c ≡ cause.Memory) → Executed r text s s' printed → Acts keep text line passed s s' (marked out printed ++ marked err said) (turn.Stops c)
  acts-told keep r f c said rest kept is front w e =
      let p = passes-by r f is e in
      subst (λ b. Acts b text line passed s s' (marked out printed ++ marked err said) (turn.Stops c)) (sym kept)
      (acts.breaks w (part.telling (marked out printed ++ marked err (fault_line f line)) p.0 ((f, line) ∷ []) s'.variables p.1
      (marked err rest, ap (λ l. marked out printed ++ marked err l) front ∙ ap (λ l. marked out printed ++ l) (marked-append err said rest) ∙ sym (append_assoc (marked out printed) (marked err said) (marked err rest)))))

  -- a statement was left, or none was executed
  part-of : (keep : Bool) → IsLeftIn text s s' printed → IsPart s.budget keep text line s.variables (marked out printed)
  part-of keep (inl k) = part.inside k.0 s'.variables printed k.1 k.2
  part-of keep (inr e) = subst (λ t. IsPart s.budget keep text line s.variables (marked out t)) (sym e) part.nothing

  -- a statement was stopped by the sink, or for want of memory
  pub acts-write : (keep : Bool) (r : Result Flow StepFault) → r ≡ Err step.Write → Executed r text s s' printed → Acts keep text line passed s s' (marked out printed) (turn.Stops cause.WriteFault)
  acts-write keep r is e = acts.breaks (inl refl) (part-of keep (subst (λ x. Executed x text s s' printed) is e))

  pub acts-memory : (keep : Bool) (r : Result Flow StepFault) → r ≡ Err step.Memory → Executed r text s s' printed → Acts keep text line passed s s' (marked out printed) (turn.Stops cause.Memory)
  acts-memory keep r is e = acts.breaks (inr refl) (part-of keep (subst (λ x. Executed x text s s' printed) is e))
